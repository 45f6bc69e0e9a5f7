-- Laws of the foreign-state test: what next leaves of an own state, and what a set leaves, is own, unless the line passes the highest.
-- Assumes nothing.
use mathlib.Core.Path.{◌≡◌, refl, sym, ◌∙◌}
use mathlib.Core.Bool.{Bool, true, false}
use mathlib.Core.List.{List}
use Prim.Native.Nat.{ℕ, ◌+◌, ◌≤◌}
use native.Mathlib.Omega.{arith}
use native.Mathlib.Nat.{le_refl}
use lib.ListN.{length}
use Rattle.record.specs.declared.Noted.{Noted}
use Rattle.record.specs.declared.Noted.TheVariants.{Zero, One, Two, Three, Four}
use Rattle.reader.specs.declared.Reader.{Reader}
use Rattle.reader.specs.State.{most_lines, own}
use Rattle.reader.specs.Next.{onward_by, seeking_of, next_by, next_of}
use Rattle.reader.proofs.Owning.{own_facts, own_true}
use Rattle.sets.specs.Sets.{next_start, after_of}
use Rattle.sets.specs.Inside.{Sound}
use Rattle.sets.proofs.Sounds.{start_within, next_sound}

-- next leaves the window's length as it was
pub next_window : (s : Reader) (w : List ℕ) → (next_of s w).state.window ≡ s.window
unfolding next_of seeking_of
next_window s w = go (own s (length w)) s.closed
  where
    by : (e : Noted) → (onward_by s e).window ≡ s.window
    by Zero = refl
    by (One a) = refl
    by (Two a b) = refl
    by (Three a b c) = refl
    by (Four a b c d) = refl

    go : (o closed : Bool) → (next_by s w o closed).state.window ≡ s.window
    go false closed = refl
    go true true = refl
    go true false = by s.noted

-- next keeps a state own, unless its line passes the highest
pub next_own : (s : Reader) (w : List ℕ) → own s (length w) ≡ true → (next_of s w).state.line.0 ≤ most_lines → own (next_of s w).state (length w) ≡ true
next_own s w o h =
    let f = next_sound s w o in
    own_true (next_of s w).state (length w)
    (record { opened = (own_facts s (length w) o).opened ∙ sym (next_window s w); forward = f.forward; inside = f.inside; notes = f.notes; behind = f.behind; near = f.near; few = h })

-- the state behind a record is own, unless its line passes the highest
pub after_own : (s : Reader) (n : ℕ) → Sound s → n ≡ s.window → s.line.0 + 4 ≤ most_lines → own (after_of s) n ≡ true
after_own s n f e h =
    let p = start_within s.start s.fill s.mark s.noted f.notes in
    own_true (after_of s) n
    (record {
      opened = e;
      forward = p.1;
      inside = f.inside;
      notes = (le_refl (next_start s.fill s.noted), p.1);
      behind = omega (arith, p, f.behind);
      near = omega (arith, p, f.near);
      few = h;
    })
