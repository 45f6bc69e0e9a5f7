-- What ties a reader and its window to an input B: the window holds B's bytes, and the notes are the line ends of what is searched.
-- Assumes nothing.
use Prim.Native.Nat.{ℕ, zero, ◌+◌, ◌-◌, ◌≤◌, ◌<◌}
use native.Mathlib.Omega.{arith}
use mathlib.Core.Path.{◌≡◌, refl, sym, ap, ◌∙◌}
use mathlib.Core.Bool.{Bool, true, false}
use mathlib.Core.List.{List, []}
use lib.ListN.{length, take, drop}
use lib.Seq.{slice, slice_empty}
use Rattle.reading.specs.Bytes.{line_ends}
use Rattle.reading.specs.Answer.{Told}
use Rattle.reading.specs.Reading.{first, ends}
use Rattle.record.specs.declared.Noted.{Noted}
use Rattle.record.specs.declared.Noted.TheVariants.{Zero, One, Two, Three, Four}
use Rattle.record.specs.Noted.{listed}
use Rattle.reader.specs.declared.Reader.{Reader}
use Rattle.reader.specs.State.{most_bytes, own, Notes, Own, fresh_of}
use Rattle.reader.specs.Next.{onward_by, onward_of}
use Rattle.reader.proofs.Owning.{own_true, notes_at}
use Rattle.reading.proofs.Readings.{first_zero}

-- the window holds B's bytes up to the fill point; t bytes are taken, and all of them if the end is noted
pub record Holds (B w : List ℕ) (W start fill byte t : ℕ) (end : Bool) : Type 0 where
  pub wide : length w ≡ W
  pub start_fill : start ≤ fill
  pub fill_wide : fill ≤ W
  pub start_byte : start ≤ byte
  pub same : take fill w ≡ take fill (drop (byte - start) B)
  pub within : fill ≤ length (drop (byte - start) B)
  pub reached : byte - start + fill ≡ t
  pub near : t ≤ most_bytes
  pub at_end : end ≡ true → length B ≤ t

-- the notes of a state that seeks are the line ends of what is searched
abbrev pub Searched : Reader → List ℕ → Type 0
Searched s w = (length (listed s.noted) < 4) × (listed s.noted ≡ line_ends s.start (slice s.start s.mark w))

-- the reader and its window stand for a reading of B of which t bytes are taken
pub record Good (B : List ℕ) (s : Reader) (w : List ℕ) (t : ℕ) : Type 0 where
  pub holds : Holds B w s.window s.start s.fill s.byte.0 t s.ended
  pub notes : Notes s.start s.fill s.mark (listed s.noted)
  pub lines : s.line.0 ≤ most_bytes + s.byte.0
  pub noted : s.closed ≡ false → (length (listed s.noted) < 4) → listed s.noted ≡ line_ends s.start (slice s.start s.mark w)
  pub seeks : s.waiting ≡ true → (s.closed ≡ false) × (length (listed s.noted) < 4)

-- such a state is its window's own
pub good_own : (B : List ℕ) (s : Reader) (w : List ℕ) (t : ℕ) → Good B s w t → Own s (length w)
good_own B s w t g =
    let h = g.holds in
    record {
      opened = h.wide;
      forward = h.start_fill;
      inside = h.fill_wide;
      notes = g.notes;
      behind = h.start_byte;
      near = omega (arith, h.start_fill, h.start_byte, h.reached, h.near);
      few = omega (arith, g.lines, h.start_fill, h.start_byte, h.reached, h.near);
    }

pub good_owned : (B : List ℕ) (s : Reader) (w : List ℕ) (t : ℕ) → Good B s w t → own s (length w) ≡ true
good_owned B s w t g = own_true s (length w) (good_own B s w t g)

-- the next n answers that are due
abbrev pub due_by : ℕ → List ℕ → Reader → Bool → Noted → List Told
due_by n B s true e = ends n s.line.0 s.byte.0
due_by n B s false (Four a b c d) = first n B s.window (s.byte.0 + (d + 1 - s.start)) (s.line.0 + 4)
due_by n B s false Zero = first n B s.window s.byte.0 s.line.0
due_by n B s false (One a) = first n B s.window s.byte.0 s.line.0
due_by n B s false (Two a b) = first n B s.window s.byte.0 s.line.0
due_by n B s false (Three a b c) = first n B s.window s.byte.0 s.line.0

abbrev pub due : ℕ → List ℕ → Reader → List Told
due n B s = due_by n B s s.closed s.noted

due_none : (B : List ℕ) (s : Reader) (c : Bool) (e : Noted) → due_by zero B s c e ≡ []
due_none B s true e = refl
due_none B s false Zero = first_zero B s.window s.byte.0 s.line.0
due_none B s false (One a) = first_zero B s.window s.byte.0 s.line.0
due_none B s false (Two a b) = first_zero B s.window s.byte.0 s.line.0
due_none B s false (Three a b c) = first_zero B s.window s.byte.0 s.line.0
due_none B s false (Four a b c d) = first_zero B s.window (s.byte.0 + (d + 1 - s.start)) (s.line.0 + 4)

pub due_zero : (B : List ℕ) (s : Reader) → due zero B s ≡ []
due_zero B s = due_none B s s.closed s.noted

-- of a state that seeks, the reading from its position
pub due_few : (n : ℕ) (B : List ℕ) (s : Reader) (e : Noted) → length (listed e) < 4 → due_by n B s false e ≡ first n B s.window s.byte.0 s.line.0
due_few n B s Zero h = refl
due_few n B s (One a) h = refl
due_few n B s (Two a b) h = refl
due_few n B s (Three a b c) h = refl
due_few n B s (Four a b c d) h = absurd (omega arith)

-- of an open state, the reading from the record that is sought
pub due_onward : (n : ℕ) (B : List ℕ) (s : Reader) → s.closed ≡ false → due n B s ≡ first n B (onward_of s).window (onward_of s).byte.0 (onward_of s).line.0
due_onward n B s c = ap (λ (b : Bool). due_by n B s b s.noted) c ∙ go s.noted
  where
    go : (e : Noted) → due_by n B s false e ≡ first n B (onward_by s e).window (onward_by s e).byte.0 (onward_by s e).line.0
    go Zero = refl
    go (One a) = refl
    go (Two a b) = refl
    go (Three a b c) = refl
    go (Four a b c d) = refl

-- from an open state to one that seeks
pub onward_good : (B : List ℕ) (s : Reader) (w : List ℕ) (t : ℕ) → Good B s w t → s.closed ≡ false → Good B (onward_of s) w t × Searched (onward_of s) w × ((onward_of s).closed ≡ false)
unfolding line_ends
onward_good B s w t g c = go s.noted refl
  where
    stays : length (listed s.noted) < 4 → Good B s w t × Searched s w × (s.closed ≡ false)
    stays h = (g, (h, g.noted c h), c)

    go : (e : Noted) → s.noted ≡ e → Good B (onward_by s e) w t × Searched (onward_by s e) w × ((onward_by s e).closed ≡ false)
    go Zero q = stays (rw q (omega arith))
    go (One a) q = stays (rw q (omega arith))
    go (Two a b) q = stays (rw q (omega arith))
    go (Three a b c') q = stays (rw q (omega arith))
    go (Four a b c' d) q =
        let h = g.holds in
        let n = notes_at s.start s.fill s.mark s.noted (Four a b c' d) q g.notes in
        let e : s.byte.0 + (d + 1 - s.start) - (d + 1) ≡ s.byte.0 - s.start = omega (arith, n, h.start_byte) in
        let f : [] ≡ line_ends (d + 1) (slice (d + 1) (d + 1) w) = ap (line_ends (d + 1)) (sym (slice_empty (d + 1) w)) in (
          record {
            holds =
                record {
                  wide = h.wide;
                  start_fill = omega (arith, n);
                  fill_wide = h.fill_wide;
                  start_byte = omega (arith, n, h.start_byte);
                  same = rw e h.same;
                  within = rw e h.within;
                  reached = rw e h.reached;
                  near = h.near;
                  at_end = h.at_end;
                };
            notes = (omega arith, omega (arith, n));
            lines = omega (arith, g.lines, n);
            noted = λ x y. f;
            seeks = λ x. (c, omega arith);
          },
          (omega arith, f),
          c,
        )

-- a fresh reader stands for the reading from the input's first byte
pub fresh_good : (B w : List ℕ) (W : ℕ) → length w ≡ W → Good B (fresh_of W) w 0
unfolding line_ends
fresh_good B w W h =
    record {
      holds =
          record {
            wide = h;
            start_fill = omega arith;
            fill_wide = omega arith;
            start_byte = omega arith;
            same = refl;
            within = omega arith;
            reached = refl;
            near = omega arith;
            at_end = λ e. let z : ◌≡◌ {A = ℕ} 0 1 = cc in absurd (omega arith);
          };
      notes = (omega arith, omega arith);
      lines = omega arith;
      noted = λ x y. refl;
      seeks = λ x. (refl, omega arith);
    }
