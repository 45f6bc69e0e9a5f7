-- What the private helpers answer, and the facts that they are handed: steps on the way, which no public promise cites.
-- Assumes nothing.
use Rattle.std.specs.Prelude.{ℕ, ◌+◌, ◌-◌, ◌≤◌, ◌<◌, min, ◌≡◌, Bool, true, false, List, [], ◌∷◌, length, ltb, eqb, Option, Some, None, Ok, Err}
use Rattle.record.specs.declared.Record.{Record}
use Rattle.record.specs.Noted.{listed as notes}
use Rattle.reader.specs.declared.Reader.{Reader}
use Rattle.reader.specs.declared.Outcome.{Outcome}
use Rattle.reader.specs.declared.Answer.{Answer}
use Rattle.sets.specs.declared.Reply.{Reply}
use Rattle.reader.specs.State.{Notes, most_bytes, most_lines, own}
use Rattle.reader.specs.Next.{next_of}
use Rattle.reader.specs.declared.Refusal.TheVariants.{Foreign, NothingToDo}
use Rattle.sets.specs.declared.Reply.TheVariants.{Count}
use Rattle.sets.specs.declared.Run.{Run}
use Rattle.sets.specs.Sets.{row_in, other_of, collected, after_of, listed}

-- a state that answered a record: as an own one, but that its line may be four lines above the highest
pub record Sound (s : Reader) : Type 0 where
  pub forward : s.start ≤ s.fill
  pub inside : s.fill ≤ s.window
  pub notes : Notes s.start s.fill s.mark (notes s.noted)
  pub behind : s.start ≤ s.byte.0
  pub near : s.byte.0 + (s.fill - s.start) ≤ most_bytes
  pub few : s.line.0 ≤ most_lines + 4

abbrev pub over_of : ℕ → Reader → Outcome Reply → Run
over_of k s l =
    record { count = k; wanted = k; entry = None; state = s; out = l }

abbrev pub stopped_of : ℕ → Reader → Run
stopped_of k s = over_of k s (listed (after_of s) (Ok (Count k)))

abbrev pub onward_of : ℕ → ℕ → Outcome Answer → Record → Run
onward_of k n x r = record { count = k; wanted = n; entry = Some r; state = x.state; out = listed x.state (other_of x.answer) }

abbrev pub none_by : Reader → ℕ → Outcome Answer → Bool → Run
none_by s k x true = over_of 0 s (listed x.state (other_of x.answer))
none_by s k x false = stopped_of k s

abbrev pub look_by : Reader → ℕ → ℕ → Outcome Answer → Option Record → Run
look_by s k n x (Some r) = onward_of k n x r
look_by s k n x None = none_by s k x (eqb k 0)

-- what next answers, where k records of n are listed
unfoldable pub look_of : Reader → List ℕ → ℕ → ℕ → Run
look_of s w k n = look_by s k n (next_of s w) (row_in (next_of s w).answer)

abbrev pub step_by : Run → List ℕ → Bool → Run
step_by r w true = look_of r.state w (r.count + 1) r.wanted
step_by r w false = stopped_of (r.count + 1) r.state

-- behind the entry
unfoldable pub step_of : Run → List ℕ → Run
step_of r w = step_by r w (ltb (r.count + 1) r.wanted)

abbrev pub begin_by : Reader → List ℕ → ℕ → Bool → Bool → Run
begin_by s w n false none = over_of 0 s (listed s (Err Foreign))
begin_by s w n true true = over_of 0 s (listed s (Err NothingToDo))
begin_by s w n true false = look_of s w 0 n

unfoldable pub begin_of : Reader → List ℕ → ℕ → ℕ → Run
begin_of s w room wanted = begin_by s w (min wanted room) (own s (length w)) (eqb (min wanted room) 0)

abbrev pub left_by : Run → List ℕ → Option Record → List Record
left_by r w (Some e) = e ∷ (collected (r.wanted - (r.count + 1)) r.state w).records
left_by r w None = []

-- the records that are still to be listed
unfoldable pub left_of : Run → List ℕ → List Record
left_of r w = left_by r w r.entry

abbrev pub end_by : Run → List ℕ → Option Record → Outcome Reply
end_by r w (Some e) =
    listed (after_of (collected (r.wanted - (r.count + 1)) r.state w).state) (Ok (Count (r.count + 1 + length (collected (r.wanted - (r.count + 1)) r.state w).records)))
end_by r w None = r.out

-- the answer in the end
unfoldable pub end_of : Run → List ℕ → Outcome Reply
end_of r w = end_by r w r.entry

-- a run that fits a table of so many entries
pub record Ready (r : Run) (room : ℕ) : Type 0 where
  pub fits : r.wanted ≤ room
  pub ahead : (e : Record) → r.entry ≡ Some e → r.count < r.wanted
  pub sound : (e : Record) → r.entry ≡ Some e → Sound r.state
