-- FIELDS: the bytes that each view shows through the window at an answered record are those of the reading's field in the input.
-- Assumes nothing.
use Prim.Native.Nat.{ℕ, suc, ◌+◌, ◌-◌, ◌≤◌, ◌<◌}
use native.Mathlib.Omega.{arith}
use native.Mathlib.Decide.{dec_le}
use mathlib.Core.Path.{◌≡◌, refl, sym, ap, ◌∙◌, subst}
use mathlib.Core.Bool.{Bool, true, false}
use mathlib.Core.List.{List}
use lib.ListN.{length, get_or, take, drop}
use lib.Seq.{slice, take-take, get_or-take, get_or-drop, length-take-le}
use borrow.Author.Tests.{le-leb, eqb-true}
use Rattle.std.specs.Prelude.{Result, Ok, Err}
use Rattle.reading.specs.Bytes.{LF, AT, PLUS, byte_at, line_ends, trim_cr}
use Rattle.reading.specs.Shift.{shift_five}
use Rattle.reading.specs.Answer.{Five}
use Rattle.reading.specs.Answer as read
use Rattle.reading.specs.Lists.{is_found}
use Rattle.reading.specs.Reading.{good, starts_well, has_plus, lengths_agree, verdict, validate, head_of, seq_of, qual_of, desc_in, seen, record_of, Step, onward, unended, closing, step_at}
use Rattle.reading.proofs.Lines.{line_ends_hold}
use Rattle.reading.proofs.Steps.{seen_low, seen_high, seen_rises, step_onward, step_unended}
use Rattle.reading.proofs.Readings.{ClosesWell, step_closes}
use Rattle.record.specs.Check.{five_of}
use Rattle.reading.proofs.Shifted.{slice-shift, head_shift, seq_shift, qual_shift}
use mathlib.Core.Option.{Option, none, some}
use Rattle.record.specs.declared.Record.{Record as Rec}
use Rattle.record.specs.declared.Noted.{Noted}
use Rattle.record.specs.declared.Noted.TheVariants.{Zero, One, Two, Three, Four}
use Rattle.record.specs.Views.{view_test, head_view, seq_view, qual_view, id_view, desc_by, desc_view, has_desc}
use Rattle.record.proofs.Views.{fits_facts}
use Rattle.reader.specs.declared.Byte.{Byte}
use Rattle.reader.specs.declared.Reader.{Reader}
use Rattle.reader.specs.declared.Answer.{Answer}
use Rattle.reader.specs.declared.Answer.TheVariants.{Record, More, WindowLimit, InvalidStart, InvalidSeparator, UnequalLengths, UnexpectedEnd, End}
use Rattle.reader.specs.declared.Refusal.{Refusal}
use Rattle.reader.specs.Next.{answer_of, settles, settled_by, decided_by, onward_by, onward_of, seeking_of, next_by, next_of}
use Rattle.reader.specs.Seek.{base}
use Rattle.reader.specs.State.{own}
use Rattle.demands.specs.Runs.{Bench}
use Rattle.demands.specs.Fields.{text_of, Shown}
use Rattle.demands.proofs.Chunks.{Stands}
use Rattle.demands.proofs.Standing.{Good, Searched, good_owned, onward_good}
use Rattle.demands.proofs.Nexts.{seeking_is, step_is, next_served}

-- ---- a record that passed validation passes the view test

-- what validation lets pass begins with `@` and has a `+`
good_bytes : (B : List ℕ) (r : Five) → validate B r ≡ good → (byte_at B r.start ≡ AT) × (byte_at B r.sep ≡ PLUS)
unfolding validate
good_bytes B r = go (starts_well B r) refl (has_plus B r) refl (lengths_agree B r)
  where
    go : (t : Bool) → starts_well B r ≡ t → (u : Bool) → has_plus B r ≡ u → (v : Bool) → verdict B r t u v ≡ good → (byte_at B r.start ≡ AT) × (byte_at B r.sep ≡ PLUS)
    go false e u f v g = let z : ◌≡◌ {A = ℕ} 0 1 = cc in absurd (omega arith)
    go true e false f v g = let z : ◌≡◌ {A = ℕ} 0 1 = cc in absurd (omega arith)
    go true e true f v g = (eqb-true (byte_at B r.start) AT e, eqb-true (byte_at B r.sep) PLUS f)

-- at a line end that is seen stands an LF
seen_holds : (B : List ℕ) (W p i : ℕ) → i < length (seen B W p) → byte_at B (get_or (seen B W p) i 0) ≡ LF
seen_holds B W p i h =
    let e : ℕ = get_or (seen B W p) i 0 in
    let l = seen_low B W p i h in
    let u = seen_high B W p i h in
    let q : p + (e - p) ≡ e = omega (arith, l) in
    ap (byte_at B) (sym q) ∙ sym (get_or-drop p B (e - p) 0) ∙ sym (get_or-take W (drop p B) (e - p) 0 (omega (arith, l, u.1))) ∙ line_ends_hold p (take W (drop p B)) i h

-- the view test as its five facts
test_true : (r : Five) (n : ℕ) → r.start + 2 ≤ r.seq → r.seq + 1 ≤ r.sep → r.sep + 2 ≤ r.qual → r.qual ≤ r.end → r.end ≤ n → view_test r n ≡ true
unfolding view_test
test_true r n a b c d e = rw (le-leb (r.start + 2) r.seq a, le-leb (r.seq + 1) r.sep b, le-leb (r.sep + 2) r.qual c, le-leb r.qual r.end d, le-leb r.end n e)

-- three line ends seen, and an end behind them: the record passes the view test
record_viewed : (B : List ℕ) (W p end n : ℕ) → 3 ≤ length (seen B W p) → get_or (seen B W p) 2 0 < end → end ≤ n → validate B (record_of p (seen B W p) end) ≡ good
    → view_test (record_of p (seen B W p) end) n ≡ true
record_viewed B W p end n h k l v =
    let g = good_bytes B (record_of p (seen B W p) end) v in
    let a = seen_low B W p 0 (omega arith) in
    let b = seen_rises B W p 0 (omega arith) in
    let c = seen_rises B W p 1 (omega arith) in
    let d : p < get_or (seen B W p) 0 0 = apart p 0 AT (omega arith) g.0 (λ x. omega arith) (omega (arith, a)) in
    let f : get_or (seen B W p) 1 0 + 1 < get_or (seen B W p) 2 0 = apart (get_or (seen B W p) 1 0 + 1) 2 PLUS (omega arith) g.1 (λ x. omega arith) (omega (arith, c)) in
    test_true (record_of p (seen B W p) end) n (omega arith) (omega arith) (omega arith) (omega arith) l
  where
    -- a byte that is no LF does not stand at a line end
    apart : (q i x : ℕ) → i < length (seen B W p) → byte_at B q ≡ x → (x ≡ LF → ⊥) → q ≤ get_or (seen B W p) i 0 → q < get_or (seen B W p) i 0
    apart q i x h e f l = by (dec_le (suc q) (get_or (seen B W p) i 0))
      where
        by : Dec (q < get_or (seen B W p) i 0) → q < get_or (seen B W p) i 0
        by (yes m) = m
        by (no m) =
            let s : q ≡ get_or (seen B W p) i 0 = omega arith in
            absurd (f (sym e ∙ ap (byte_at B) s ∙ seen_holds B W p i h))

pub onward_viewed : (B : List ℕ) (W p L n : ℕ) (r : Five) → step_at B W p L ≡ onward r → length B ≤ n → (view_test r n ≡ true) × (r.end ≤ length B)
onward_viewed B W p L n r e l =
    let o = step_onward B W p L r e in
    let u = seen_rises B W p 2 (omega (arith, o.ended)) in
    let v = record_viewed B W p (get_or (seen B W p) 3 0) n (omega (arith, o.ended)) u (omega (arith, ap (λ (x : Five). x.end) o.numbers, o.within)) (ap (validate B) (sym o.numbers) ∙ o.valid) in
    (ap (λ (x : Five). view_test x n) o.numbers ∙ v, omega (arith, o.within))

pub unended_viewed : (B : List ℕ) (W p L n : ℕ) (r : Five) → step_at B W p L ≡ unended r → length B ≤ n → (view_test r n ≡ true) × (r.end ≤ length B)
unended_viewed B W p L n r e l =
    let o = step_unended B W p L r e in
    let u = seen_high B W p 2 (omega (arith, o.three)) in
    let v = record_viewed B W p (length B) n (omega (arith, o.three)) u.0 l (ap (validate B) (sym o.numbers) ∙ o.valid) in
    (ap (λ (x : Five). view_test x n) o.numbers ∙ v, omega (arith, ap (λ (x : Five). x.end) o.numbers))

-- ---- the fields of a record that next answers

-- the five numbers that next answers are those of a record within the held bytes
abbrev pub Viewed : Reader → List ℕ → Result Answer Refusal → Type 0
Viewed s w (Ok (Record r b)) = (view_test (five_of r) (length w) ≡ true) × (r.end ≤ s.fill)
Viewed s w (Ok More) = Unit {0}
Viewed s w (Ok (WindowLimit L b)) = Unit {0}
Viewed s w (Ok (InvalidStart x L)) = Unit {0}
Viewed s w (Ok (InvalidSeparator x L i)) = Unit {0}
Viewed s w (Ok (UnequalLengths n m L i)) = Unit {0}
Viewed s w (Ok (UnexpectedEnd L i)) = Unit {0}
Viewed s w (Ok End) = Unit {0}
Viewed s w (Err r) = Unit {0}

closing_viewed : (s : Reader) (w : List ℕ) (b : Byte) (a : read.Answer) → is_found a ≡ false → Viewed s w (Ok (answer_of b a))
closing_viewed s w b (read.found r) e = let z : ◌≡◌ {A = ℕ} 0 1 = cc in absurd (omega arith)
closing_viewed s w b a e = tt

module _ (B : List ℕ) (s : Reader) (w : List ℕ) (t : ℕ) (g : Good B s w t) (few : Searched s w) (open' : s.closed ≡ false) where
  settled_viewed : (x : Step) → step_at (take s.fill w) s.window s.start s.line.0 ≡ x → Viewed s w (Ok (settled_by s.byte x).answer)
  settled_viewed x e = go x e (subst (λ (y : Step). ClosesWell y) e (step_closes (take s.fill w) s.window s.start s.line.0))
    where
      fits : s.fill ≤ length w
      fits = omega (arith, g.holds.wide, g.holds.fill_wide)

      long : length (take s.fill w) ≡ s.fill
      long = length-take-le s.fill w fits

      go : (y : Step) → step_at (take s.fill w) s.window s.start s.line.0 ≡ y → ClosesWell y → Viewed s w (Ok (settled_by s.byte y).answer)
      go (onward r) f c = let v = onward_viewed (take s.fill w) s.window s.start s.line.0 (length w) r f (omega (arith, long, fits)) in (v.0, omega (arith, v.1, long))
      go (unended r) f c = let v = unended_viewed (take s.fill w) s.window s.start s.line.0 (length w) r f (omega (arith, long, fits)) in (v.0, omega (arith, v.1, long))
      go (closing a) f c = closing_viewed s w s.byte a c

  seeking_viewed : Viewed s w (seeking_of s w).answer
  seeking_viewed = rw (seeking_is B s w t g few open') (go (settles (take s.fill w) s.window s.start s.ended (take 4 (line_ends s.start (slice s.start s.fill w)))))
    where
      go : (b : Bool) → Viewed s w (Ok (decided_by (take s.fill w) s.window s.start s.line.0 s.byte (take 4 (line_ends s.start (slice s.start s.fill w))) b).answer)
      go true = rw (step_is B s w t g few open') (settled_viewed (step_at (take s.fill w) s.window s.start s.line.0) refl)
      go false = tt

-- from a complete record to the one behind it the fill point stays
fill_is : (s : Reader) (e : Noted) → (onward_by s e).fill ≡ s.fill
fill_is s Zero = refl
fill_is s (One a) = refl
fill_is s (Two a b) = refl
fill_is s (Three a b c) = refl
fill_is s (Four a b c d) = refl

-- what next answers of a reader that stands for a reading
pub next_viewed : (B : List ℕ) (s : Reader) (w : List ℕ) (t : ℕ) → Good B s w t → Viewed s w (next_of s w).answer
unfolding next_of
next_viewed B s w t g = rw (good_owned B s w t g) (go s.closed refl)
  where
    move : (n : ℕ) (a : Result Answer Refusal) → (onward_of s).fill ≡ n → Viewed (onward_of s) w a → n ≡ s.fill → Viewed s w a
    move n (Ok (Record r b)) e v q = (v.0, omega (arith, v.1))
    move n a e v q = tt

    go : (c : Bool) → s.closed ≡ c → Viewed s w (next_by s w true c).answer
    go true c = tt
    go false c =
        let o = onward_good B s w t g c in
        move (onward_of s).fill (seeking_of (onward_of s) w).answer refl (seeking_viewed B (onward_of s) w t o.0 o.1 o.2) (fill_is s s.noted)

-- held bytes are the input's
module _ (B : List ℕ) (s : Reader) (w : List ℕ) (t : ℕ) (g : Good B s w t) where
  held_same : (k : ℕ) → k ≤ s.fill → take k w ≡ take k (drop (base s) B)
  held_same k h = sym (take-take k s.fill w h) ∙ ap (take k) g.holds.same ∙ take-take k s.fill (drop (base s) B) h

  -- the parts of the window that views look at
  head_same : (p seq : ℕ) → 1 ≤ seq → seq - 1 ≤ s.fill → head_of w p seq ≡ head_of B (base s + p) (base s + seq)
  unfolding head_of
  head_same p seq h k = ap (λ (l : List ℕ). trim_cr (drop (p + 1) l)) (held_same (seq - 1) k) ∙ sym (head_shift B (base s) p seq h)

  seq_same : (r : Five) → 1 ≤ r.sep → r.sep - 1 ≤ s.fill → seq_of w r ≡ seq_of B (shift_five (base s) r)
  unfolding seq_of
  seq_same r h k = ap (λ (l : List ℕ). trim_cr (drop r.seq l)) (held_same (r.sep - 1) k) ∙ sym (seq_shift B (base s) r h)

  qual_same : (r : Five) → r.end ≤ s.fill → qual_of w r ≡ qual_of B (shift_five (base s) r)
  unfolding qual_of
  qual_same r k = ap (λ (l : List ℕ). trim_cr (drop r.qual l)) (held_same r.end k) ∙ sym (qual_shift B (base s) r)

-- next leaves the fill point
pub next_fill : (s : Reader) (w : List ℕ) → (next_of s w).state.fill ≡ s.fill
unfolding next_of seeking_of
next_fill s w = go (own s (length w)) s.closed
  where
    go : (a b : Bool) → (next_by s w a b).state.fill ≡ s.fill
    go false b = refl
    go true true = refl
    go true false = fill_is s s.noted

-- views of five numbers that pass the test, of a window that holds B's bytes
views_shown : (B : List ℕ) (s : Reader) (w : List ℕ) (t : ℕ) → Good B s w t → (r : Five) → view_test r (length w) ≡ true → r.end ≤ s.fill → Shown B w r (shift_five (base s) r)
unfolding head_view seq_view qual_view id_view desc_view has_desc
views_shown B s w t g r v h =
    let f = fits_facts r (length w) v in
    let hd : head_of w r.start r.seq ≡ head_of B (base s + r.start) (base s + r.seq) = head_same B s w t g r.start r.seq (omega (arith, f)) (omega (arith, f)) in
    record {
      head = rw (v, hd);
      seq = rw v (seq_same B s w t g r (omega (arith, f)) (omega (arith, f)));
      qual = rw v (qual_same B s w t g r h);
      id = rw (v, hd);
      described = rw (v, hd);
      desc = rw (v, hd) (text (desc_in (head_of B (base s + r.start) (base s + r.seq))) _);
    }
  where
    text : (d : Option (List ℕ)) (a : ℕ) → (desc_by a d).bytes ≡ text_of d
    text none a = refl
    text (some d) a = refl

answer_viewed : (s : Reader) (w : List ℕ) (r : Rec) (y : Byte) (a : Result Answer Refusal) → a ≡ Ok (Record r y) → Viewed s w a → (view_test (five_of r) (length w) ≡ true) × (r.end ≤ s.fill)
answer_viewed s w r y a e v = subst (λ (x : Result Answer Refusal). Viewed s w x) e v

-- DEMAND 2, FIELDS: at a record that next answers, the bytes that each view shows through the window are those of the reading's fields in the input.
pub fields_are_the_readings : (B : List ℕ) (b : Bench) → Stands B b → (r : Rec) (y : Byte) → (next_of b.reader b.window).answer ≡ Ok (Record r y)
    → Shown B b.window (five_of r) (shift_five (base (next_of b.reader b.window).state) (five_of r))
fields_are_the_readings B b g r y e =
    let v = answer_viewed b.reader b.window r y (next_of b.reader b.window).answer e (next_viewed B b.reader b.window b.taken g) in
    views_shown B (next_of b.reader b.window).state b.window b.taken (next_served B b.reader b.window b.taken g).good (five_of r) v.0
    (omega (arith, v.1, next_fill b.reader b.window))

-- WRITE-UNCHANGED: the bytes of the window from the start to the end of a record that next answers, which `write_unchanged` copies, are the record's own bytes
-- of the input.
pub record_bytes_are_the_inputs : (B : List ℕ) (b : Bench) → Stands B b → (r : Rec) (y : Byte) → (next_of b.reader b.window).answer ≡ Ok (Record r y)
    → slice r.start r.end b.window ≡ slice (base (next_of b.reader b.window).state + r.start) (base (next_of b.reader b.window).state + r.end) B
record_bytes_are_the_inputs B b g r y e =
    let s = (next_of b.reader b.window).state in
    let v = answer_viewed b.reader b.window r y (next_of b.reader b.window).answer e (next_viewed B b.reader b.window b.taken g) in
    ap (drop r.start) (held_same B s b.window b.taken (next_served B b.reader b.window b.taken g).good r.end (omega (arith, v.1, next_fill b.reader b.window)))
    ∙ sym (slice-shift (base s) r.start r.end B)
