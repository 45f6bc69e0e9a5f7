-- Laws of a record that stands in bytes: its line ends, its parts, and the step that reads it.
-- Assumes nothing.
use Prim.Native.Nat.{ℕ, suc, ◌+◌, ◌-◌, ◌≤◌, ◌<◌}
use native.Mathlib.Omega.{arith}
use native.Mathlib.Nat.{add-zero}
use native.Mathlib.Numerals.{add-one}
use mathlib.Core.Path.{◌≡◌, refl, sym, ap, ◌∙◌}
use mathlib.Core.Bool.{Bool, true, false, ◌&&◌, cond}
use mathlib.Core.Option as maybe
use Rattle.std.specs.Prelude.{Option, Some, None}
use mathlib.Core.List.{List, [], ◌∷◌, ◌++◌, append_assoc}
use lib.ListN.{length, get_or, take, drop, length-append, take-append-drop}
use lib.Seq.{slice, take_all, take-length, drop-append-add, take_at, drop_at, drop-drop, get_or-drop, get_or_at, get_or-append-add}
use borrow.Author.Tests.{le-ltb, lt-ltb, eqb-true, eqb-false, eq-eqb, ne_eqb, not-true}
use Rattle.reading.specs.Bytes.{LF, CR, AT, PLUS, SPACE, byte_at, line_ends, trim_cr, is_empty, ends_id, id_length}
use Rattle.reading.specs.Answer.{Five, found, told}
use Rattle.reading.specs.Reading.{good, validate, lengths_agree, judged, seen, record_of, complete, onward, step_at, reading, head_of, seq_of, qual_of}
use Rattle.reading.proofs.Lines.{line_ends-append, line_ends-shift, take-append}
use Rattle.reading.proofs.Steps.{step_four}
use Rattle.reading.proofs.Readings.{reading_is}
use Rattle.lines.proofs.Laws.{slice-take, trim_whole}
use Rattle.writer.specs.Bytes.{record_bytes, head_from}
use Rattle.writer.specs.Fields.{good_field, good_fields, good_desc, good_id, good_parts}
use Rattle.writer.specs.Back.{Fields, fields, bytes_of, size_of, Good, StandsAt, HeldBy, placed, Shown, PartsShown}
use Rattle.writer.proofs.Laws.{record_length}

suc_sub_one : (n : ℕ) → suc n - 1 ≡ n
suc_sub_one n = omega arith

-- both of two tests that pass together pass
pub both : (a b : Bool) → (a && b) ≡ true → (a ≡ true) × (b ≡ true)
both true b e = (refl, e)
both false b e = let z : ◌≡◌ {A = ℕ} 0 1 = cc in absurd (omega arith)

-- ---- good fields

-- a field without a line end that doesn't end in 13
pub record Whole (s : List ℕ) : Type 0 where
  pub lineless : (o : ℕ) → line_ends o s ≡ []
  pub last : byte_at s (length s - 1) ≡ CR → ⊥

-- what the test of a field says
pub field_facts : (s : List ℕ) → good_field s ≡ true → Whole s
unfolding good_field
field_facts s e =
    let p = both _ _ e in
    let z = none (line_ends 0 s) p.0 in
    record {
      lineless = λ o. ap (λ (n : ℕ). line_ends n s) (sym (add-zero o)) ∙ line_ends-shift o 0 s ∙ rw z;
      last = eqb-false _ _ (not-true _ p.1);
    }
  where
    none : (es : List ℕ) → is_empty es ≡ true → es ≡ []
    none [] e = refl
    none (x ∷ es) e = let z : ◌≡◌ {A = ℕ} 0 1 = cc in absurd (omega arith)

-- and says
pub field_good : (s : List ℕ) → Whole s → good_field s ≡ true
unfolding good_field
field_good s w = rw (w.lineless 0, ne_eqb (byte_at s (length s - 1)) CR w.last)

-- two good fields with a space between them
pub whole_join : (s d : List ℕ) → Whole s → Whole d → Whole (s ++ SPACE ∷ d)
unfolding line_ends
whole_join s d g k =
    record {
      lineless = λ o. rw (line_ends-append o s (SPACE ∷ d), g.lineless o, k.lineless (suc (o + length s)));
      last = λ e. end d k.last (sym at_end ∙ e);
    }
  where
    at_end : byte_at (s ++ SPACE ∷ d) (length (s ++ SPACE ∷ d) - 1) ≡ get_or (SPACE ∷ d) (length d) 0
    at_end =
        let n : length (s ++ SPACE ∷ d) - 1 ≡ length s + length d = simp length-append (omega arith) in
        ap (λ (i : ℕ). byte_at (s ++ SPACE ∷ d) i) n ∙ get_or-append-add s (SPACE ∷ d) (length d) 0

    end : (d : List ℕ) → (byte_at d (length d - 1) ≡ CR → ⊥) → get_or (SPACE ∷ d) (length d) 0 ≡ CR → ⊥
    end [] h e = omega arith
    end (b ∷ d) h e = h (ap (λ (i : ℕ). get_or (b ∷ d) i 0) (suc_sub_one (length d)) ∙ e)

-- what the test of the fields says
pub record GoodFacts (f : Fields) : Type 0 where
  pub head : Whole f.head
  pub seq : Whole f.seq
  pub qual : Whole f.qual
  pub lengths : length f.seq ≡ length f.qual

pub good_facts : (f : Fields) → Good f → GoodFacts f
unfolding good_fields
good_facts f e =
    let p = both _ _ e in
    let q = both _ _ p.0 in
    let r = both _ _ q.0 in
    record {
      head = field_facts _ r.0;
      seq = field_facts _ r.1;
      qual = field_facts _ q.1;
      lengths = eqb-true _ _ p.1;
    }

-- ---- line ends

-- bytes without a line end, and LF: the line ends there, and the others follow
line_then : (o p : ℕ) (s ys : List ℕ) → line_ends o s ≡ [] → p ≡ o + length s → line_ends o (s ++ LF ∷ ys) ≡ p ∷ line_ends (p + 1) ys
unfolding line_ends
line_then o p s ys e q = rw (line_ends-append o s (LF ∷ ys), e, q, add-one (o + length s))

-- the four line ends of a record at a place, and others
abbrev pub four_ends : ℕ → Fields → List ℕ → List ℕ
four_ends at f es =
    (at + length f.head + 1)
    ∷ (at + length f.head + length f.seq + 2)
    ∷ (at + length f.head + length f.seq + 4)
    ∷ (at + length f.head + length f.seq + length f.qual + 5)
    ∷ es

-- the record of those line ends
record_placed : (at : ℕ) (f : Fields) (es : List ℕ) → record_of at (four_ends at f es) (placed at f).end ≡ placed at f
record_placed at f es =
    let a : at + length f.head + 1 + 1 ≡ (placed at f).seq = omega arith in
    let b : at + length f.head + length f.seq + 2 + 1 ≡ (placed at f).sep = omega arith in
    let c : at + length f.head + length f.seq + 4 + 1 ≡ (placed at f).qual = omega arith in
    rw (a, b, c)

-- good fields have those line ends, whatever bytes follow
record_ends : (at : ℕ) (f : Fields) (ys : List ℕ) → GoodFacts f → (es : List ℕ) × (line_ends at (bytes_of f ++ ys) ≡ four_ends at f es)
unfolding record_bytes line_ends
record_ends at f ys g = (line_ends (d + 1) ys, ap (line_ends at) lines ∙ ends)
  where
    a : ℕ
    a = at + length f.head + 1

    b : ℕ
    b = at + length f.head + length f.seq + 2

    c : ℕ
    c = at + length f.head + length f.seq + 4

    d : ℕ
    d = at + length f.head + length f.seq + length f.qual + 5

    lines : bytes_of f ++ ys ≡ (AT ∷ f.head) ++ (LF ∷ (f.seq ++ (LF ∷ ((PLUS ∷ []) ++ (LF ∷ (f.qual ++ LF ∷ ys))))))
    lines = simp append_assoc

    ends : line_ends at ((AT ∷ f.head) ++ (LF ∷ (f.seq ++ (LF ∷ ((PLUS ∷ []) ++ (LF ∷ (f.qual ++ LF ∷ ys))))))) ≡ four_ends at f (line_ends (d + 1) ys)
    ends =
        rw (
          line_then at a (AT ∷ f.head) _ (g.head.lineless (suc at)) (omega arith),
          line_then (a + 1) b f.seq _ (g.seq.lineless (a + 1)) (omega arith),
          line_then (b + 1) c (PLUS ∷ []) _ refl (omega arith),
          line_then (c + 1) d f.qual ys (g.qual.lineless (c + 1)) (omega arith),
        )

-- ---- parts of bytes

-- the bytes behind `pre` from a place on
part_at : (B pre mid post : List ℕ) (at p e : ℕ) → drop at B ≡ pre ++ mid ++ post → p ≡ at + length pre → e ≡ p + length mid → slice p e B ≡ mid
part_at B pre mid post at p e d h k =
    let n : e - p ≡ length mid = omega arith in
    let m : drop p B ≡ mid ++ post = rw (h, ← drop-drop (length pre) at B, d, append_assoc) (drop_at pre (mid ++ post) (length pre) refl) in
    slice-take p e B ∙ rw (n, m, take_at mid post (length mid) refl)

-- the byte behind `pre` from a place on
byte_at_lem : (B pre : List ℕ) (b : ℕ) (post : List ℕ) (at p : ℕ) → drop at B ≡ pre ++ b ∷ post → p ≡ at + length pre → byte_at B p ≡ b
byte_at_lem B pre b post at p d h = rw (h, ← get_or-drop at B (length pre) 0, d) (get_or_at pre b post 0 (length pre) refl)

-- ---- a record of good fields that stands at a place

module _ (B : List ℕ) (at : ℕ) (f : Fields) (s : StandsAt B at (bytes_of f)) where
  -- the bytes from there on, and those behind it
  abbrev behind : List ℕ
  behind = drop (size_of f) (drop at B)

  here : drop at B ≡ bytes_of f ++ behind
  here = sym (take-append-drop (size_of f) (drop at B)) ∙ ap (λ (l : List ℕ). l ++ behind) s

  starts : byte_at B at ≡ AT
  unfolding record_bytes
  starts = byte_at_lem B [] AT (f.head ++ LF ∷ f.seq ++ LF ∷ PLUS ∷ LF ∷ f.qual ++ LF ∷ behind) at at (here ∙ simp append_assoc) (omega arith)

  separates : byte_at B (placed at f).sep ≡ PLUS
  unfolding record_bytes
  separates = byte_at_lem B (AT ∷ f.head ++ LF ∷ f.seq ++ LF ∷ []) PLUS (LF ∷ f.qual ++ LF ∷ behind) at (placed at f).sep (here ∙ simp append_assoc) (simp length-append (omega arith))

  head_part : slice (at + 1) ((placed at f).seq - 1) B ≡ f.head
  unfolding record_bytes
  head_part = part_at B (AT ∷ []) f.head (LF ∷ f.seq ++ LF ∷ PLUS ∷ LF ∷ f.qual ++ LF ∷ behind) at (at + 1) ((placed at f).seq - 1) (here ∙ simp append_assoc) (omega arith) (omega arith)

  seq_part : slice (placed at f).seq ((placed at f).sep - 1) B ≡ f.seq
  unfolding record_bytes
  seq_part = part_at B (AT ∷ f.head ++ LF ∷ []) f.seq (LF ∷ PLUS ∷ LF ∷ f.qual ++ LF ∷ behind) at (placed at f).seq ((placed at f).sep - 1) (here ∙ simp append_assoc) (simp length-append (omega arith)) (omega arith)

  qual_part : slice (placed at f).qual (placed at f).end B ≡ f.qual
  unfolding record_bytes
  qual_part =
      part_at B (AT ∷ f.head ++ LF ∷ f.seq ++ LF ∷ PLUS ∷ LF ∷ []) f.qual (LF ∷ behind) at (placed at f).qual (placed at f).end (here ∙ simp append_assoc) (simp length-append (omega arith)) (omega arith)

  module _ (g : GoodFacts f) where
    -- its views are the fields
    pub stands_shown : Shown B (placed at f) f
    unfolding head_of seq_of qual_of
    stands_shown =
        record {
          head = ap trim_cr head_part ∙ sym (trim_whole f.head g.head.last);
          seq = ap trim_cr seq_part ∙ sym (trim_whole f.seq g.seq.last);
          qual = ap trim_cr qual_part ∙ sym (trim_whole f.qual g.qual.last);
        }

    -- it passes validation
    stands_good : validate B (placed at f) ≡ good
    unfolding validate lengths_agree
    stands_good = rw (starts, separates, eq-eqb ((placed at f).sep - (placed at f).seq) ((placed at f).end - (placed at f).qual + 1) (omega (arith, g.lengths)))

    -- a window that holds it sees its line ends
    stands_seen : (W : ℕ) → HeldBy W f → (es : List ℕ) × (seen B W at ≡ four_ends at f es)
    stands_seen W w =
        let e = record_ends at f (take (W - size_of f) behind) g in
        let q : take W (drop at B) ≡ bytes_of f ++ take (W - size_of f) behind =
        ap (take W) here ∙ take-append W (bytes_of f) behind ∙ ap (λ (l : List ℕ). l ++ take (W - size_of f) behind) (take_all W (bytes_of f) w) in
        (e.0, ap (line_ends at) q ∙ e.1)

    -- the step there answers it and goes on
    stands_step : (W L : ℕ) → HeldBy W f → step_at B W at L ≡ onward (placed at f)
    unfolding complete
    stands_step W L w =
        let e = stands_seen W w in
        let n : 4 ≤ length (seen B W at) = rw e.1 (omega arith) in
        step_four B W at L n ∙ ap (complete B at L) e.1 ∙ ap (λ (r : Five). judged L (onward r) (validate B r)) (record_placed at f e.0) ∙ rw stands_good

    -- and the reading goes on behind it
    pub stands_read : (W L : ℕ) → HeldBy W f → reading B W at L ≡ told L at (found (placed at f)) ∷ reading B W (at + size_of f) (L + 4)
    stands_read W L w =
        let n : (placed at f).end + 1 ≡ at + size_of f = omega (arith, record_length f.head f.seq f.qual) in
        reading_is B W at L ∙ rw (stands_step W L w, n)

-- ---- the id and the description of a head

-- an id that holds no byte that ends an id, and a space: the id of both is that id
id_join : (id d : List ℕ) → id_length id ≡ length id → id_length (id ++ SPACE ∷ d) ≡ length id
unfolding id_length
id_join [] d e = refl
id_join (b ∷ id) d e = go (ends_id b) (λ k. id_join id d k) e
  where
    go : (t : Bool) → (id_length id ≡ length id → id_length (id ++ SPACE ∷ d) ≡ length id)
        → cond t 0 (suc (id_length id)) ≡ suc (length id) → cond t 0 (suc (id_length (id ++ SPACE ∷ d))) ≡ suc (length id)
    go true f e = absurd (omega arith)
    go false f e = ap suc (f (omega arith))

-- the head shows both
pub parts_shown : (id : List ℕ) (desc : Option (List ℕ)) → good_id id ≡ true → PartsShown (head_from id desc) id desc
parts_shown id None e =
    let n : id_length id ≡ length id = eqb-true _ _ e in
    record { id_is = rw n (take-length id); desc_is = rw (n, le-ltb (length id) (length id) (omega arith)) }
parts_shown id (Some d) e =
    let n : id_length (id ++ SPACE ∷ d) ≡ length id = id_join id d (eqb-true _ _ e) in
    let m : length id < length (id ++ SPACE ∷ d) = simp length-append (omega arith) in
    record {
      id_is = rw n (take_at id (SPACE ∷ d) (length id) refl);
      desc_is = rw (n, lt-ltb (length id) (length (id ++ SPACE ∷ d)) m) (ap maybe.some (drop-append-add id (SPACE ∷ d) 1));
    }

-- what the test of the parts says
pub record PartsFacts (id : List ℕ) (desc : Option (List ℕ)) (seq qual : List ℕ) : Type 0 where
  pub good : Good (fields (head_from id desc) seq qual)
  pub shown : PartsShown (head_from id desc) id desc

pub parts_facts : (id : List ℕ) (desc : Option (List ℕ)) (seq qual : List ℕ) → good_parts id desc seq qual ≡ true → PartsFacts id desc seq qual
unfolding good_parts good_fields
parts_facts id desc seq qual e =
    let p = both _ _ e in
    let q = both _ _ p.0 in
    record { good = head desc q.1 q.0; shown = parts_shown id desc p.1 }
  where
    head : (d : Option (List ℕ)) → good_desc d ≡ true → good_fields id seq qual ≡ true → good_fields (head_from id d) seq qual ≡ true
    head None k g = g
    head (Some d) k g =
        let h : good_field (id ++ SPACE ∷ d) ≡ good_field id =
        field_good _ (whole_join id d (good_facts (fields id seq qual) g).head (field_facts d k)) ∙ sym (field_good id (good_facts (fields id seq qual) g).head) in
        rw h g
