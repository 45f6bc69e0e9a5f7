-- Laws of the states that next leaves: their numbers fit.
-- Assumes nothing.
use mathlib.Core.Path.{◌≡◌, refl}
use mathlib.Core.Bool.{Bool, true, false}
use mathlib.Core.List.{List, [], ◌∷◌}
use Prim.Native.Nat.{ℕ, ◌+◌, ◌≤◌}
use native.Mathlib.Omega.{arith}
use native.Mathlib.Nat.{le_refl}
use lib.ListN.{length, take}
use lib.Seq.{length-take-le}
use Rattle.record.specs.declared.Noted.{Noted}
use Rattle.record.specs.declared.Noted.TheVariants.{Zero, One, Two, Three, Four}
use Rattle.record.specs.declared.Record.{Record}
use Rattle.record.specs.Noted.{listed, after, gathered, sought_by, sought_of}
use Rattle.reader.specs.declared.Reader.{Reader}
use Rattle.reader.specs.State.{own, Notes, Own}
use Rattle.reader.specs.Next.{onward_by, onward_of, seeking_of, next_by, next_of}
use Rattle.reader.proofs.Owning.{own_facts}
use Rattle.reader.proofs.Nexting.{sought_notes, onward_seeks}
use Rattle.std.specs.Prelude.{Some}
use Rattle.sets.specs.Sets.{row_in, next_start}
use Rattle.sets.specs.Inside.{Sound}

-- the place behind a record lies between its start and the fill point
pub start_within : (a fill m : ℕ) (e : Noted) → Notes a fill m (listed e) → (a ≤ next_start fill e) × (next_start fill e ≤ fill)
start_within a fill m Zero n = (omega arith, le_refl fill)
start_within a fill m (One b) n = (omega (arith, n), le_refl fill)
start_within a fill m (Two b c) n = (omega (arith, n), le_refl fill)
start_within a fill m (Three b c d) n = (omega (arith, n), le_refl fill)
start_within a fill m (Four b c d e) n = (omega (arith, n), omega (arith, n))

-- the notes and the mark after a search fit
sought_fits : (H : List ℕ) (e : Noted) (p m : ℕ) → Notes p (length H) m (listed e) → Notes p (length H) (sought_of H e m).mark (listed (sought_of H e m).noted)
unfolding sought_of
sought_fits H e p m n = go e n (sought_notes H e p m n)
  where
    L : ℕ
    L = length H

    by : (es : List ℕ) → Notes p L L (listed (gathered L es).noted) → Notes p L (gathered L es).mark (listed (gathered L es).noted)
    by [] k = k
    by (a ∷ []) k = k
    by (a ∷ b ∷ []) k = k
    by (a ∷ b ∷ c ∷ []) k = k
    by (a ∷ b ∷ c ∷ d ∷ es) k =
        let z = k.2.2.2 in
        (k.0, k.1, (k.2.0, k.2.1, (k.2.2.0, k.2.2.1, (z.0, z.1, (omega arith, omega (arith, z.1))))))

    go : (f : Noted) → Notes p L m (listed f) → Notes p L L (listed (sought_by H m f).noted) → Notes p L (sought_by H m f).mark (listed (sought_by H m f).noted)
    go Zero h k = by (after H m) k
    go (One a) h k = by (a ∷ after H m) k
    go (Two a b) h k = by (a ∷ b ∷ after H m) k
    go (Three a b c) h k = by (a ∷ b ∷ c ∷ after H m) k
    go (Four a b c d) h k = h

-- from an own state to the record that is sought
onward_sound : (s : Reader) (n : ℕ) → Own s n → Sound (onward_of s)
onward_sound s n o = go s.noted o.notes
  where
    stays : Sound s
    stays = record { forward = o.forward; inside = o.inside; notes = o.notes; behind = o.behind; near = o.near; few = omega (arith, o.few) }

    go : (e : Noted) → Notes s.start s.fill s.mark (listed e) → Sound (onward_by s e)
    go Zero k = stays
    go (One a) k = stays
    go (Two a b) k = stays
    go (Three a b c) k = stays
    go (Four a b c d) k =
        record {
          forward = omega (arith, k);
          inside = o.inside;
          notes = (le_refl (d + 1), omega (arith, k));
          behind = omega (arith, k, o.behind);
          near = omega (arith, k, o.near);
          few = omega (arith, o.few);
        }

-- the search leaves the numbers of a state as they were, and its notes fit
seeking_sound : (s : Reader) (w : List ℕ) → Sound s → s.fill ≤ length w → Sound (seeking_of s w).state
unfolding seeking_of
seeking_sound s w o h =
    let n : length (take s.fill w) ≡ s.fill = length-take-le s.fill w h in
    record {
      forward = o.forward;
      inside = o.inside;
      notes = rw n at (sought_fits (take s.fill w) s.noted s.start s.mark (rw n o.notes));
      behind = o.behind;
      near = o.near;
      few = o.few;
    }

-- what next leaves of an own state
pub next_sound : (s : Reader) (w : List ℕ) → own s (length w) ≡ true → Sound (next_of s w).state
unfolding next_of
next_sound s w o = rw o (go s.closed)
  where
    f : Own s (length w)
    f = own_facts s (length w) o

    go : (closed : Bool) → Sound (next_by s w true closed).state
    go true = record { forward = f.forward; inside = f.inside; notes = f.notes; behind = f.behind; near = f.near; few = omega (arith, f.few) }
    go false = seeking_sound (onward_of s) w (onward_sound s (length w) f) (onward_seeks s (length w) f).inside

-- a state in which next gives a record is own
pub record_own : (s : Reader) (w : List ℕ) (r : Record) → row_in (next_of s w).answer ≡ Some r → own s (length w) ≡ true
unfolding next_of
record_own s w r = go (own s (length w))
  where
    go : (o : Bool) → row_in (next_by s w o s.closed).answer ≡ Some r → o ≡ true
    go true e = refl
    go false e = cc
