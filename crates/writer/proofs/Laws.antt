-- Laws of bytes laid into an output.
-- Assumes nothing.
use Prim.Native.Nat.{ℕ, ◌+◌, ◌-◌, ◌≤◌, ◌<◌}
use native.Mathlib.Omega.{arith}
use native.Mathlib.Nat.{add_assoc, add-zero}
use mathlib.Core.Path.{◌≡◌, refl, sym, ap, ◌∙◌}
use mathlib.Core.List.{List, [], ◌∷◌, ◌++◌, append_assoc, append-nil}
use mathlib.Core.Bool.{Bool, true, false, not}
use mathlib.Core.Option.{Option, none, some}
use lib.ListN.{length, get_or, take, drop, length-append, length-take, length-drop, take-append-drop, drop_of_length-le}
use lib.Seq.{take_all, take_at, drop_at, take-take, take-add, drop-drop, take-append_seam, drop-append_seam, drop-append-add, length-take-le}
use lib.Dec.{eqb}
use borrow.Author.Tests.{lt-leb, le-leb, leb-true}
use Rattle.reading.specs.Bytes.{CR, byte_at}
use Rattle.lines.specs.Lines.{line_from, copied}
use Rattle.lines.proofs.Laws.{line_found, line_none}
use Rattle.std.specs.Prelude.{Result, Ok, Err, Some, None, slice_get, is_some, unwrap_or, option_copied}
use Rattle.std.specs.Prelude as std
use Rattle.std.specs.Option.{option_eq}
use Rattle.std.proofs.lemmas.Option.{unwrap_or-slice_get}
use Rattle.writer.specs.declared.Refusal.{Refusal}
use Rattle.writer.specs.declared.Refusal.TheVariants.{NoRoom}
use Rattle.std.specs.List.{flat_map}
use Rattle.std.specs.Borrow.{Bor}
use Rattle.std.proofs.lemmas.List.{take_more}
use Rattle.std.proofs.lemmas.List.Folds.{length-flat_map-take}
use Rattle.std.proofs.lemmas.Grind.{flat_map-append}
use Rattle.writer.specs.Bytes.{joined, record_bytes, laid}
use Rattle.writer.specs.Fields.{good_field}
use Rattle.writer.specs.Answer.{written, has_room, unless, answer_by, answer, Writes}

-- a part lent from a place on that came back with bytes over its front: they are laid there
pub copied_laid : (o s y : List ℕ) (at : ℕ) → at + length s ≤ length o → y ≡ copied (take (length o - at) (drop at o)) s
    → take at o ++ (y ++ drop (length o - at) (drop at o)) ≡ laid o at s
unfolding copied laid
copied_laid o s y at h e =
    let r : take (length o - at) (drop at o) ≡ drop at o = take_all (length o - at) (drop at o) (simp length-drop (omega arith)) in
    let z : drop (length o - at) (drop at o) ≡ [] = drop_of_length-le (drop at o) {i = length o - at} (simp length-drop (omega arith)) in
    let t : take (length (drop at o)) s ≡ s = take_all (length (drop at o)) s (simp length-drop (omega arith)) in
    rw (e, r, z, t, drop-drop (length s) at o, append-nil) (sym (append_assoc (take at o) s (drop (at + length s) o)))

-- bytes laid behind bytes
pub laid_on : (o xs ys m : List ℕ) (at p : ℕ) → at + length xs ≤ length o → p ≡ at + length xs → m ≡ laid o at xs → laid m p ys ≡ laid o at (xs ++ ys)
unfolding laid
laid_on o xs ys m at p h q e =
    let n : length (take at o ++ xs) ≡ p = simp (length-append, length-take) (omega arith) in
    let d : drop (p + length ys) (take at o ++ xs ++ drop (at + length xs) o) ≡ drop (at + length (xs ++ ys)) o =
    rw (← n, drop-append-add, drop-drop, length-append, add_assoc) in
    rw (e, take_at (take at o ++ xs) (drop (at + length xs) o) p n, d, append_assoc (take at o) xs ys)

-- nothing laid changes nothing
pub laid_none : (o bs : List ℕ) (at : ℕ) → o ≡ laid o at (take 0 bs)
unfolding laid
laid_none o bs at = rw (append-nil, add-zero) (sym (take-append-drop at o))

-- ---- parts, one behind the other

-- what stands past the last part
abbrev pub no_part : Bor (List ℕ)
no_part = record { ref_ptr = (0, 0); now = [] }

-- the parts so far and the next are no longer than all
pub joined_within : (parts : List (Bor (List ℕ))) (i : ℕ) → i < length parts → length (joined (take i parts)) + length (get_or parts i no_part).now ≤ length (joined parts)
joined_within parts i h = length-flat_map-take (λ (p : Bor (List ℕ)). p.now) parts i no_part h

-- the parts so far, and the next behind them
pub joined_more : (parts : List (Bor (List ℕ))) (i : ℕ) → i < length parts → joined (take (i + 1) parts) ≡ joined (take i parts) ++ (get_or parts i no_part).now
joined_more parts i h =
    let f : Bor (List ℕ) → List ℕ = λ p. p.now in
    ap (flat_map f) (take_more parts i no_part h) ∙ flat_map-append f (take i parts) (get_or parts i no_part ∷ []) ∙ ap (λ (l : List ℕ). flat_map f (take i parts) ++ l) (append-nil (get_or parts i no_part).now)

-- the next part laid behind those so far
pub laid_next : (o m y : List ℕ) (parts : List (Bor (List ℕ))) (at p i : ℕ) → i < length parts → at + length (joined parts) ≤ length o → m ≡ laid o at (joined (take i parts))
    → p ≡ at + length (joined (take i parts)) → length m ≡ length o → y ≡ copied (take (length m - p) (drop p m)) (get_or parts i no_part).now
    → take p m ++ (y ++ drop (length m - p) (drop p m)) ≡ laid o at (joined (take (i + 1) parts))
laid_next o m y parts at p i h k e q n c =
    let w = joined_within parts i h in
    copied_laid m (get_or parts i no_part).now y p (omega arith) c ∙ laid_on o (joined (take i parts)) (get_or parts i no_part).now m at p (omega arith) q e ∙ ap (laid o at) (sym (joined_more parts i h))

-- ---- writes

-- too little room: refused
pub short : (o bs : List ℕ) (at : ℕ) → length o < at + length bs → Writes none o at bs (Err NoRoom) o
unfolding answer
short o bs at h = record { answered = rw (lt-leb (at + length bs) (length o) h); leaves = laid_none o bs at }

-- room for all: all are written
pub wrote : (o bs m : List ℕ) (at n : ℕ) → at + length bs ≤ length o → n ≡ length bs → m ≡ laid o at bs → Writes none o at bs (Ok n) m
unfolding answer
wrote o bs m at n h e f = record { answered = rw (le-leb (at + length bs) (length o) h, e); leaves = f ∙ ap (laid o at) (sym (take_all n bs (omega arith))) }

module _ (o bs : List ℕ) (at : ℕ) (k : Refusal) (t u : Bool) (e : t ≡ u) where
  -- a test that comes first and fails
  pub refused : t ≡ false → Writes (unless u k) o at bs (Err k) o
  unfolding answer
  refused h = rw (← e, h) (record { answered = refl; leaves = laid_none o bs at })

  -- a test that comes first and passes
  pub passed : {m : List ℕ} {r : Result ℕ Refusal} → t ≡ true → Writes none o at bs r m → Writes (unless u k) o at bs r m
  passed h w = rw (← e, h) w

-- ---- the bytes of a record

-- head + seq + qual + 6 bytes
pub record_length : (head seq qual : List ℕ) → length (record_bytes head seq qual) ≡ length head + length seq + length qual + 6
unfolding record_bytes
record_length head seq qual = simp length-append (omega arith)

-- ---- the test of a field

-- the last byte as it was asked for, which is none where there are no bytes
pub last_asked : (s : List ℕ) (o : std.Option (Bor ℕ)) (x : Bor ℕ) → option_copied o ≡ slice_get s (length s - 1) → x.now ≡ CR
    → option_eq (λ (x y : Bor ℕ). eqb x.now y.now) o (Some x) ≡ eqb (byte_at s (length s - 1)) CR
last_asked s None x e h = let z : 0 ≡ byte_at s (length s - 1) = ap (λ (o : std.Option ℕ). unwrap_or o 0) e ∙ unwrap_or-slice_get s (length s - 1) 0 in rw (← z) refl
last_asked s (Some y) x e h = let z : y.now ≡ byte_at s (length s - 1) = ap (λ (o : std.Option ℕ). unwrap_or o 0) e ∙ unwrap_or-slice_get s (length s - 1) 0 in rw (← z, h) refl

-- a field with an LF isn't good
pub field_line : (s : List ℕ) (found : std.Option ℕ) → found ≡ line_from s 0 → is_some found ≡ true → false ≡ good_field s
unfolding good_field
field_line s None e h = let z : ◌≡◌ {A = ℕ} 0 1 = cc in absurd (omega arith)
field_line s (Some i) e h = rw (line_found s 0 i (sym e)).ends

-- one without is good unless it ends in 13
pub field_whole : (s : List ℕ) (found : std.Option ℕ) (t : Bool) → found ≡ line_from s 0 → is_some found ≡ false → t ≡ eqb (byte_at s (length s - 1)) CR → not t ≡ good_field s
unfolding good_field
field_whole s None t e h f = rw (line_none s 0 (sym e), f)
field_whole s (Some i) t e h f = let z : ◌≡◌ {A = ℕ} 0 1 = cc in absurd (omega arith)

-- ---- what a promise says of an answer

-- how many bytes were written: the test that comes first passed, there was room, and all are laid
pub record Accepted (first : Option Refusal) (out : List ℕ) (at : ℕ) (bs : List ℕ) (n : ℕ) (after : List ℕ) : Type 0 where
  pub passes : first ≡ none
  pub room : at + length bs ≤ length out
  pub count : n ≡ length bs
  pub bytes : after ≡ laid out at bs

pub accepted : {first : Option Refusal} {out bs after : List ℕ} {at n : ℕ} → Writes first out at bs (Ok n) after → Accepted first out at bs n after
unfolding answer
accepted {first} {out} {bs} {after} {at} {n} w = go first (has_room out at (length bs)) refl refl w.answered
  where
    go : (a : Option Refusal) (t : Bool) → first ≡ a → has_room out at (length bs) ≡ t → Ok n ≡ answer_by a t (length bs) → Accepted first out at bs n after
    go (some k) t e f q = let z : ◌≡◌ {A = ℕ} 0 1 = cc in absurd (omega arith)
    go none false e f q = let z : ◌≡◌ {A = ℕ} 0 1 = cc in absurd (omega arith)
    go none true e f q =
        let m : n ≡ length bs = cc in
        record { passes = e; room = leb-true _ _ f; count = m; bytes = w.leaves ∙ ap (laid out at) (take_all n bs (omega arith)) }

-- a refusal: nothing is written
pub kept : {first : Option Refusal} {out bs after : List ℕ} {at : ℕ} {k : Refusal} → Writes first out at bs (Err k) after → after ≡ out
kept {out = out} {bs = bs} {at = at} w = w.leaves ∙ sym (laid_none out bs at)

-- two answers to one write are one
pub one_answer : {first : Option Refusal} {out bs a b : List ℕ} {at : ℕ} {r s : Result ℕ Refusal} → Writes first out at bs r a → Writes first out at bs s b → (r ≡ s) × (a ≡ b)
one_answer {out = out} {bs = bs} {at = at} v w =
    let e = v.answered ∙ sym w.answered in
    (e, v.leaves ∙ ap (λ (x : Result ℕ Refusal). laid out at (take (written x) bs)) e ∙ sym w.leaves)

-- a test without a refusal passed
pub unless_passes : (t : Bool) (k : Refusal) → unless t k ≡ none → t ≡ true
unless_passes true k e = refl
unless_passes false k e = let z : ◌≡◌ {A = ℕ} 0 1 = cc in absurd (omega arith)

-- laid bytes stand where they were laid
pub laid_stands : (out bs : List ℕ) (at : ℕ) → at + length bs ≤ length out → take (length bs) (drop at (laid out at bs)) ≡ bs
unfolding laid
laid_stands out bs at h =
    rw (append_assoc (take at out) bs (drop (at + length bs) out), drop_at (take at out) (bs ++ drop (at + length bs) out) at (length-take-le at out (omega arith)))
    (take_at bs (drop (at + length bs) out) (length bs) refl)

-- the bytes before them and behind them are those of the output
pub laid_others : (out bs : List ℕ) (at : ℕ) → at + length bs ≤ length out
    → (take at (laid out at bs) ≡ take at out) × (drop (at + length bs) (laid out at bs) ≡ drop (at + length bs) out)
unfolding laid
laid_others out bs at h =
    let n : length (take at out) ≡ at = length-take-le at out (omega arith) in (
      rw (append_assoc (take at out) bs (drop (at + length bs) out)) (take_at (take at out) (bs ++ drop (at + length bs) out) at n),
      drop_at (take at out ++ bs) (drop (at + length bs) out) (at + length bs) (rw (length-append, n)),
    )

-- the output keeps its length
pub laid-length : (out bs : List ℕ) (at : ℕ) → at + length bs ≤ length out → length (laid out at bs) ≡ length out
unfolding laid
laid-length out bs at h = simp (length-append, length-take, length-drop) (omega arith)

-- bytes that stand one after the other stand each at its place
pub stands_split : (B xs ys : List ℕ) (at : ℕ) → take (length (xs ++ ys)) (drop at B) ≡ xs ++ ys
    → (take (length xs) (drop at B) ≡ xs) × (take (length ys) (drop (at + length xs) B) ≡ ys)
stands_split B xs ys at s =
    let e : take (length xs) (drop at B) ++ take (length ys) (drop (length xs) (drop at B)) ≡ xs ++ ys = sym (take-add (length xs) (length ys) (drop at B)) ∙ rw (← length-append xs ys) s in
    let f : take (length xs) (drop at B) ≡ xs =
    sym (take-take (length xs) (length (xs ++ ys)) (drop at B) (simp length-append (omega arith))) ∙ ap (take (length xs)) s ∙ take-append_seam xs ys in
    (f, rw (← drop-drop (length xs) at B) (sym (drop-append_seam xs (take (length ys) (drop (length xs) (drop at B)))) ∙ ap (drop (length xs)) (rw f at e) ∙ drop-append_seam xs ys))
