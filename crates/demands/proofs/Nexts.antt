-- Next, over a reader and a window that stand for a reading of B, gives the answer that is due, and leaves a reader that stands for it.
-- Assumes nothing.
use Prim.Native.Nat.{ℕ, suc, ◌+◌, ◌-◌, ◌≤◌, ◌<◌}
use native.Mathlib.Omega.{arith}
use mathlib.Core.Path.{◌≡◌, refl, sym, ap, ◌∙◌}
use mathlib.Core.Bool.{Bool, true, false, ◌||◌, or-false}
use mathlib.Core.Option.{Option, none, some}
use mathlib.Core.List.{List, [], ◌∷◌, ◌++◌, append-nil}
use lib.ListN.{length, get_or, take, drop, length-take, length-drop, take-append-drop, drop_of_length-le}
use lib.Seq.{slice, length-slice, drop-append-le, take_all, length-take-le, take-take}
use lib.Dec.{leb}
use borrow.Author.Tests.{leb-true, leb-false, le-leb, lt-leb}
use Rattle.std.specs.Prelude.{Result, Ok, Err}
use Rattle.reading.specs.Bytes.{line_ends}
use Rattle.reading.specs.Answer.{Five, Id, absent, range, found, window_limit, invalid_start, invalid_separator, unequal_lengths, unexpected_end, ended, Told, told}
use Rattle.reading.specs.Answer as read
use Rattle.reading.specs.Reading.{Step, onward, unended, closing, rest, seen, step_with, step_at, first}
use Rattle.reading.specs.Lists.{is_found, is_limit}
use Rattle.reading.specs.Shift.{shift}
use Rattle.reading.proofs.Lines.{line_ends-append}
use Rattle.reading.proofs.Steps.{step_onward, step_unended}
use Rattle.reading.proofs.Stable.{step_prefix, step_notes}
use Rattle.reading.proofs.Readings.{first_suc, ClosesWell, step_closes}
use Rattle.reading.proofs.Limits.{limit_here}
use Rattle.reading.proofs.Shifted.{shift_step, step_shift}
use Rattle.record.specs.declared.Noted.{Noted}
use Rattle.record.specs.declared.Noted.TheVariants.{Zero, One, Two, Three, Four}
use Rattle.record.specs.declared.Sought.{Sought}
use Rattle.record.specs.Noted.{listed, after, gathered, sought_of}
use Rattle.record.specs.Check.{span_of}
use Rattle.reader.specs.declared.Byte.{Byte}
use Rattle.reader.specs.declared.Reader.{Reader}
use Rattle.reader.specs.declared.Answer.{Answer}
use Rattle.reader.specs.declared.Answer.TheVariants.{Record, More, WindowLimit, InvalidStart, InvalidSeparator, UnequalLengths, UnexpectedEnd, End}
use Rattle.reader.specs.declared.Refusal.{Refusal}
use Rattle.reader.specs.declared.Outcome.{Outcome}
use Rattle.reader.specs.State.{state_of, Notes}
use Rattle.reader.specs.Next.{answer_of, settles, settled_by, decided_by, decided_of, onward_of, next_with, searched_of, seeking_of, closed_of, next_by, next_of}
use Rattle.reader.specs.Seek.{base}
use Rattle.reader.proofs.Nexting.{gathered_listed, ends_notes, notes_mark}
use Rattle.demands.specs.Runs.{id_of, heard_of, placed}
use Rattle.demands.proofs.Standing.{Holds, Searched, Good, good_owned, due_by, due, due_few, due_onward, onward_good}

-- ---- an answer of a step, heard in absolute offsets

id_back : (i : Id) → id_of (span_of i) ≡ i
id_back absent = refl
id_back (range a b) = refl

-- the reading's answer, shifted; window limit tells the absolute offset that it was given
heard_answer : (k b p L : ℕ) (a : read.Answer) → b ≡ k + p → (is_limit a ≡ true → a ≡ window_limit L p) → heard_of k (Ok (answer_of (record { 0 = b }) a)) ≡ some (shift k a)
heard_answer k b p L (found r) e f = refl
heard_answer k b p L (window_limit M q) e f = let g : window_limit M q ≡ window_limit L p = f refl in let h : q ≡ p = cc in rw (e, h)
heard_answer k b p L (invalid_start x M) e f = refl
heard_answer k b p L (invalid_separator x M i) e f = rw id_back
heard_answer k b p L (unequal_lengths n m M i) e f = rw id_back
heard_answer k b p L (unexpected_end M i) e f = rw id_back
heard_answer k b p L ended e f = refl

-- ---- the line ends in hand

-- a part and the part after it make one part
slice_join : (a b c : ℕ) (w : List ℕ) → a ≤ b → b ≤ c → b ≤ length w → slice a b w ++ slice b c w ≡ slice a c w
slice_join a b c w h k l =
    ap (λ (x : List ℕ). drop a x ++ drop b (take c w)) (sym (take-take b c w k))
    ∙ sym (drop-append-le a (take b (take c w)) (drop b (take c w)) (omega (arith, length-take b (take c w), length-take c w)))
    ∙ ap (drop a) (take-append-drop b (take c w))

-- a search with fewer than four line ends noted gathers those and the ones that it finds
sought_few : (H : List ℕ) (e : Noted) (m : ℕ) → length (listed e) < 4 → sought_of H e m ≡ gathered (length H) (listed e ++ after H m)
unfolding sought_of
sought_few H Zero m h = refl
sought_few H (One a) m h = refl
sought_few H (Two a b) m h = refl
sought_few H (Three a b c) m h = refl
sought_few H (Four a b c d) m h = absurd (omega arith)

-- the mark after a search fits its notes
gathered_notes : (p n : ℕ) (es : List ℕ) → Notes p n n es → Notes p n (gathered n es).mark (listed (gathered n es).noted)
gathered_notes p n [] k = k
gathered_notes p n (a ∷ []) k = k
gathered_notes p n (a ∷ b ∷ []) k = k
gathered_notes p n (a ∷ b ∷ c ∷ []) k = k
gathered_notes p n (a ∷ b ∷ c ∷ d ∷ es) k = (k.0, k.1, (k.2.0, k.2.1, (k.2.2.0, k.2.2.1, (k.2.2.2.0, k.2.2.2.1, (omega arith, omega (arith, k.2.2.2.1))))))

-- with fewer than four, all bytes are searched
gathered_few : (n : ℕ) (es : List ℕ) → length es < 4 → ((gathered n es).mark ≡ n) × (listed (gathered n es).noted ≡ es)
gathered_few n [] h = (refl, refl)
gathered_few n (a ∷ []) h = (refl, refl)
gathered_few n (a ∷ b ∷ []) h = (refl, refl)
gathered_few n (a ∷ b ∷ c ∷ []) h = (refl, refl)
gathered_few n (a ∷ b ∷ c ∷ d ∷ es) h = absurd (omega arith)

-- the four line ends of a complete record are noted
gathered_four : (n : ℕ) (es : List ℕ) → 4 ≤ length es
    → (a : ℕ) × (b : ℕ) × (c : ℕ) × ((gathered n es).noted ≡ Four a b c (get_or es 3 0))
gathered_four n [] h = absurd (omega arith)
gathered_four n (a ∷ []) h = absurd (omega arith)
gathered_four n (a ∷ b ∷ []) h = absurd (omega arith)
gathered_four n (a ∷ b ∷ c ∷ []) h = absurd (omega arith)
gathered_four n (a ∷ b ∷ c ∷ d ∷ es) h = (a, b, c, refl)

-- a disjunction of tests fails: its first fails
or_left : (a b : Bool) → (a || b) ≡ false → a ≡ false
or_left true b e = e
or_left false b e = refl

-- ---- a record is sought

-- what a call of next gives: a request leaves the same answers due, an answer is the first that was due
abbrev pub Gives : ℕ → List ℕ → Reader → Reader → Option read.Answer → Type 0
Gives n B s s' none = due n B s ≡ due n B s'
Gives n B s s' (some a) = due (suc n) B s ≡ placed s' a ∷ due n B s'

pub record Served (B : List ℕ) (s : Reader) (w : List ℕ) (t : ℕ) (r : Outcome Answer) : Type 0 where
  pub good : Good B r.state w t
  pub gives : (n : ℕ) → Gives n B s r.state (heard_of (base r.state) r.answer)

module _ (B : List ℕ) (s : Reader) (w : List ℕ) (t : ℕ) (g : Good B s w t) (few : Searched s w) (open' : s.closed ≡ false) where
  h : Holds B w s.window s.start s.fill s.byte.0 t s.ended
  h = g.holds

  fits : s.fill ≤ length w
  fits = omega (arith, h.wide, h.fill_wide)

  abbrev H : List ℕ
  H = take s.fill w

  long : length H ≡ s.fill
  long = length-take-le s.fill w fits

  -- all line ends of the held bytes from the start on
  abbrev all : List ℕ
  all = line_ends s.start (slice s.start s.fill w)

  mark_in : (s.start ≤ s.mark) × (s.mark ≤ s.fill)
  mark_in = notes_mark s.start s.fill s.mark (listed s.noted) g.notes

  joined : listed s.noted ++ after H s.mark ≡ all
  joined =
      let n : s.start + length (slice s.start s.mark w) ≡ s.mark = omega (arith, mark_in, fits, length-slice s.start s.mark w (omega (arith, mark_in, fits))) in
      ap (λ (x : List ℕ). x ++ after H s.mark) few.1
      ∙ ap (λ (x : ℕ). line_ends s.start (slice s.start s.mark w) ++ line_ends x (slice s.mark s.fill w)) (sym n)
      ∙ sym (line_ends-append s.start (slice s.start s.mark w) (slice s.mark s.fill w))
      ∙ ap (line_ends s.start) (slice_join s.start s.mark s.fill w mark_in.0 mark_in.1 (omega (arith, mark_in, fits)))

  abbrev G : Sought
  G = gathered s.fill all

  gathers : searched_of s w ≡ G
  gathers = sought_few H s.noted s.mark few.0 ∙ ap (gathered (length H)) joined ∙ ap (λ (n : ℕ). gathered n all) long

  abbrev four : List ℕ
  four = take 4 all

  pub seeking_is : seeking_of s w ≡ next_with s G (decided_by H s.window s.start s.line.0 s.byte four (settles H s.window s.start s.ended four))
  unfolding seeking_of decided_of
  seeking_is = rw (gathers, gathered_listed s.fill all)

  short : length (rest H s.start) ≡ s.fill - s.start
  short = length-drop s.start H ∙ ap (λ (n : ℕ). n - s.start) long

  -- they are those that the reading sees
  pub all_seen : all ≡ seen H s.window s.start
  all_seen = ap (line_ends s.start) (sym (take_all s.window (rest H s.start) (omega (arith, short, h.fill_wide))))

  pub step_is : step_with H s.window s.start s.line.0 four ≡ step_at H s.window s.start s.line.0
  unfolding step_at
  step_is = step_notes H s.window s.start s.line.0 all ∙ rw all_seen

  four_test : leb 4 (length four) ≡ leb 4 (length all)
  four_test = go (leb 4 (length all)) refl
    where
      go : (b : Bool) → leb 4 (length all) ≡ b → leb 4 (length four) ≡ b
      go true e = le-leb 4 (length four) (omega (arith, length-take 4 all, leb-true 4 (length all) e))
      go false e = lt-leb 4 (length four) (omega (arith, length-take 4 all, leb-false 4 (length all) e))

  -- what B has after the bytes held
  abbrev beyond : List ℕ
  beyond = drop s.fill (drop (base s) B)

  split : drop (base s) B ≡ H ++ beyond
  split = sym (take-append-drop s.fill (drop (base s) B)) ∙ ap (λ (x : List ℕ). x ++ beyond) (sym h.same)

  -- where the held bytes settle the step, what B has after them doesn't matter
  stands : settles H s.window s.start s.ended four ≡ true → step_at (H ++ beyond) s.window s.start s.line.0 ≡ step_at H s.window s.start s.line.0
  stands d = go s.ended refl
    where
      go : (b : Bool) → s.ended ≡ b → step_at (H ++ beyond) s.window s.start s.line.0 ≡ step_at H s.window s.start s.line.0
      go true e = rw (drop_of_length-le (drop (base s) B) {i = s.fill} (omega (arith, h.at_end e, h.reached, length-drop (base s) B)), append-nil)
      go false e =
          step_prefix H beyond s.window s.start s.line.0
          (let d₁ : (leb 4 (length all) || (leb s.window (length (rest H s.start)) || false)) ≡ true = rw (e, four_test) at d in
          rw (all_seen, or-false) at d₁)

  -- and the reading of B takes the step that they give
  decides : settles H s.window s.start s.ended four ≡ true → step_at B s.window s.byte.0 s.line.0 ≡ shift_step (base s) (step_at H s.window s.start s.line.0)
  decides d =
      let b : s.byte.0 ≡ base s + s.start = omega (arith, h.start_byte) in
      ap (λ (q : ℕ). step_at B s.window q s.line.0) b
      ∙ step_shift B (base s) s.window s.start s.line.0
      ∙ ap (λ (l : List ℕ). shift_step (base s) (step_at l s.window s.start s.line.0)) split
      ∙ ap (shift_step (base s)) (stands d)

  due_first : (n : ℕ) → due n B s ≡ first n B s.window s.byte.0 s.line.0
  due_first n = ap (λ (c : Bool). due_by n B s c s.noted) open' ∙ due_few n B s s.noted few.0

  notes_fit : Notes s.start s.fill G.mark (listed G.noted)
  notes_fit = gathered_notes s.start s.fill all (ends_notes s.start s.fill (slice s.start s.fill w) (omega (arith, length-slice s.start s.fill w fits, h.start_fill)))

  -- a closed state stands for what is left: Ends
  closed_good : (wait : Bool) → wait ≡ false → Good B (state_of s.window s.start s.fill G.noted G.mark s.line.0 s.byte.0 s.ended wait true) w t
  closed_good wait e =
      record {
        holds = h;
        notes = notes_fit;
        lines = g.lines;
        noted = λ x y. let z : ◌≡◌ {A = ℕ} 0 1 = cc in absurd (omega arith);
        seeks = λ x. let z : ◌≡◌ {A = ℕ} 0 1 = cc in absurd (omega arith);
      }

  settle_served : (x : Step) → step_at H s.window s.start s.line.0 ≡ x → step_at B s.window s.byte.0 s.line.0 ≡ shift_step (base s) x
      → Served B s w t (next_with s G (settled_by s.byte x))
  settle_served (onward r) e f =
      let o = step_onward H s.window s.start s.line.0 r e in
      let many : 4 ≤ length all = rw all_seen o.ended in
      let q = gathered_four s.fill all many in
      let end : get_or all 3 0 ≡ r.end = ap (λ (l : List ℕ). get_or l 3 0) all_seen ∙ sym (ap (λ (x : Five). x.end) o.numbers) in
      let at : s.byte.0 + (get_or all 3 0 + 1 - s.start) ≡ base s + r.end + 1 = omega (arith, end, o.beyond, h.start_byte) in
      record {
        good =
            record {
              holds = h;
              notes = notes_fit;
              lines = g.lines;
              noted = λ x y. absurd (omega (arith, ap length (gathered_listed s.fill all), length-take 4 all, many));
              seeks = λ x. let z : ◌≡◌ {A = ℕ} 0 1 = cc in absurd (omega arith);
            };
        gives = λ n. due_first (suc n) ∙ first_suc n B s.window s.byte.0 s.line.0 ∙ rw (f, q.3, at);
      }
  settle_served (unended r) e f =
      record {
        good = closed_good false refl;
        gives = λ n. due_first (suc n) ∙ first_suc n B s.window s.byte.0 s.line.0 ∙ rw f;
      }
  settle_served (closing a) e f =
      let p : heard_of (base s) (Ok (answer_of s.byte a)) ≡ some (shift (base s) a) =
      heard_answer (base s) s.byte.0 s.start s.line.0 a (omega (arith, h.start_byte)) (limit_here H s.window s.start s.line.0 a e) in
      record {
        good = closed_good false refl;
        gives = λ n. rw p (due_first (suc n) ∙ first_suc n B s.window s.byte.0 s.line.0 ∙ rw f);
      }

  pub seeking_served : Served B s w t (seeking_of s w)
  seeking_served = rw seeking_is (go (settles H s.window s.start s.ended four) refl)
    where
      go : (b : Bool) → settles H s.window s.start s.ended four ≡ b → Served B s w t (next_with s G (decided_by H s.window s.start s.line.0 s.byte four b))
      go true d = rw step_is (settle_served (step_at H s.window s.start s.line.0) refl (decides d))
      go false d =
          let less : length all < 4 = leb-false 4 (length all) (sym four_test ∙ or_left (leb 4 (length four)) _ d) in
          let q = gathered_few s.fill all less in
          record {
            good =
                record {
                  holds = h;
                  notes = notes_fit;
                  lines = g.lines;
                  noted = λ x y. rw q.0 q.1;
                  seeks = λ x. (refl, rw q.1 less);
                };
            gives = λ n. due_first n ∙ sym (due_few n B (next_with s G (decided_by H s.window s.start s.line.0 s.byte four false)).state G.noted (rw q.1 less));
          }

-- ---- after a record

-- what the state is after an answer that is a record: it starts where the record does; if the reading is open, all four line ends are noted;
-- if it is closed, the end is noted, and fewer are
abbrev pub Hand : Reader → Result Answer Refusal → Type 0
Hand s (Ok (Record r b)) = (r.start ≡ s.start) × (s.closed ≡ false → 4 ≤ length (listed s.noted)) × (s.closed ≡ true → (s.ended ≡ true) × (length (listed s.noted) < 4))
Hand s (Ok More) = Unit {0}
Hand s (Ok (WindowLimit L b)) = Unit {0}
Hand s (Ok (InvalidStart x L)) = Unit {0}
Hand s (Ok (InvalidSeparator x L i)) = Unit {0}
Hand s (Ok (UnequalLengths n m L i)) = Unit {0}
Hand s (Ok (UnexpectedEnd L i)) = Unit {0}
Hand s (Ok End) = Unit {0}
Hand s (Err r) = Unit {0}

closing_hand : (s : Reader) (b : Byte) (a : read.Answer) → is_found a ≡ false → Hand s (Ok (answer_of b a))
closing_hand s b (found r) e = let z : ◌≡◌ {A = ℕ} 0 1 = cc in absurd (omega arith)
closing_hand s b a e = tt

module _ (B : List ℕ) (s : Reader) (w : List ℕ) (t : ℕ) (g : Good B s w t) (few : Searched s w) (open' : s.closed ≡ false) where
  -- a record with no final LF is answered once the end is noted
  unended_over : (r : Five) → step_at (take s.fill w) s.window s.start s.line.0 ≡ unended r
      → settles (take s.fill w) s.window s.start s.ended (take 4 (line_ends s.start (slice s.start s.fill w))) ≡ true → s.ended ≡ true
  unended_over r e d =
      let o = step_unended (take s.fill w) s.window s.start s.line.0 r e in
      let n : length (line_ends s.start (slice s.start s.fill w)) ≡ 3 = ap length (all_seen B s w t g few open') ∙ o.three in
      simp (lt-leb 4 (length (take 4 (line_ends s.start (slice s.start s.fill w)))) (omega (arith, length-take 4 (line_ends s.start (slice s.start s.fill w)), n)), lt-leb s.window (length (rest (take s.fill w) s.start)) o.small) at d

  settled_hand : (x : Step) → step_at (take s.fill w) s.window s.start s.line.0 ≡ x → ClosesWell x
      → settles (take s.fill w) s.window s.start s.ended (take 4 (line_ends s.start (slice s.start s.fill w))) ≡ true
      → Hand (next_with s (gathered s.fill (line_ends s.start (slice s.start s.fill w))) (settled_by s.byte x)).state (Ok (settled_by s.byte x).answer)
  settled_hand (onward r) e c d =
      let o = step_onward (take s.fill w) s.window s.start s.line.0 r e in
      let many : 4 ≤ length (line_ends s.start (slice s.start s.fill w)) = rw (all_seen B s w t g few open') o.ended in
      (ap (λ (x : Five). x.start) o.numbers, λ y. omega (arith, ap length (gathered_listed s.fill (line_ends s.start (slice s.start s.fill w))), length-take 4 (line_ends s.start (slice s.start s.fill w)), many), λ y. let z : ◌≡◌ {A = ℕ} 0 1 = cc in absurd (omega arith))
  settled_hand (unended r) e c d =
      let o = step_unended (take s.fill w) s.window s.start s.line.0 r e in
      (ap (λ (x : Five). x.start) o.numbers, λ y. let z : ◌≡◌ {A = ℕ} 0 1 = cc in absurd (omega arith), λ y. (unended_over r e d, omega (arith, ap length (gathered_listed s.fill (line_ends s.start (slice s.start s.fill w))), length-take 4 (line_ends s.start (slice s.start s.fill w)), ap length (all_seen B s w t g few open'), o.three)))
  settled_hand (closing a) e c d =
      closing_hand (next_with s (gathered s.fill (line_ends s.start (slice s.start s.fill w))) (settled_by s.byte (closing a))).state s.byte a c

  seeking_hand : Hand (seeking_of s w).state (seeking_of s w).answer
  seeking_hand =
      rw (seeking_is B s w t g few open')
      (go (settles (take s.fill w) s.window s.start s.ended (take 4 (line_ends s.start (slice s.start s.fill w)))) refl)
    where
      go : (b : Bool) → settles (take s.fill w) s.window s.start s.ended (take 4 (line_ends s.start (slice s.start s.fill w))) ≡ b
          → Hand (next_with s (gathered s.fill (line_ends s.start (slice s.start s.fill w))) (decided_by (take s.fill w) s.window s.start s.line.0 s.byte (take 4 (line_ends s.start (slice s.start s.fill w))) b)).state
          (Ok (decided_by (take s.fill w) s.window s.start s.line.0 s.byte (take 4 (line_ends s.start (slice s.start s.fill w))) b).answer)
      go true d =
          rw (step_is B s w t g few open')
          (settled_hand (step_at (take s.fill w) s.window s.start s.line.0) refl (step_closes (take s.fill w) s.window s.start s.line.0) d)
      go false d = tt

pub next_hand : (B : List ℕ) (s : Reader) (w : List ℕ) (t : ℕ) → Good B s w t → Hand (next_of s w).state (next_of s w).answer
unfolding next_of
next_hand B s w t g = rw (good_owned B s w t g) (go s.closed refl)
  where
    go : (c : Bool) → s.closed ≡ c → Hand (next_by s w true c).state (next_by s w true c).answer
    go true c = tt
    go false c = let o = onward_good B s w t g c in seeking_hand B (onward_of s) w t o.0 o.1 o.2

-- ---- every state

gives_from : (n : ℕ) (B : List ℕ) (s u s' : Reader) (a : Option read.Answer) → ((m : ℕ) → due m B s ≡ due m B u) → Gives n B u s' a → Gives n B s s' a
gives_from n B s u s' none e k = e n ∙ k
gives_from n B s u s' (some a) e k = e (suc n) ∙ k

pub next_served : (B : List ℕ) (s : Reader) (w : List ℕ) (t : ℕ) → Good B s w t → Served B s w t (next_of s w)
unfolding next_of
next_served B s w t g = rw (good_owned B s w t g) (go s.closed refl)
  where
    go : (c : Bool) → s.closed ≡ c → Served B s w t (next_by s w true c)
    go true c =
        record {
          good =
              record {
                holds = g.holds;
                notes = g.notes;
                lines = g.lines;
                noted = g.noted;
                seeks = λ x. let z : ◌≡◌ {A = ℕ} 0 1 = cc in absurd (omega arith);
              };
          gives = λ n. ap (λ (b : Bool). due_by (suc n) B s b s.noted) c ∙ ap (λ (b : Bool). told s.line.0 s.byte.0 ended ∷ due_by n B (closed_of s).state b s.noted) (sym c);
        }
    go false c =
        let o = onward_good B s w t g c in
        let v = seeking_served B (onward_of s) w t o.0 o.1 o.2 in
        record {
          good = v.good;
          gives = λ n. gives_from n B s (onward_of s) (seeking_of (onward_of s) w).state (heard_of (base (seeking_of (onward_of s) w).state) (seeking_of (onward_of s) w).answer) (λ m. due_onward m B s c ∙ sym (ap (λ (b : Bool). due_by m B (onward_of s) b (onward_of s).noted) o.2 ∙ due_few m B (onward_of s) (onward_of s).noted o.1.0)) (v.gives n);
        }
