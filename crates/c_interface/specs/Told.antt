-- What the calls answer, as a code and values: document 01's numbers, and its values in its order.
-- Assumes nothing.
use Rattle.std.specs.Prelude.{ℕ, ◌≡◌, List, [], ◌∷◌, ◌++◌, Option, Some, None, Result, Ok, Err}
use Rattle.record.specs.declared.Span.{Span}
use Rattle.reader.specs.declared.Refusal.{Refusal}
use Rattle.reader.specs.declared.Answer.{Answer}
use Rattle.reader.specs.declared.Answer.TheVariants.{Record, More, WindowLimit, InvalidStart, InvalidSeparator, UnequalLengths, UnexpectedEnd, End}
use Rattle.reader.specs.declared.Place.{Place}
use Rattle.reader.specs.declared.Place.TheVariants.{Inside, FeedFrom}
use Rattle.reader.specs.State.{number_of}
use Rattle.sets.specs.declared.Reply.{Reply}
use Rattle.sets.specs.declared.Reply.TheVariants.{Count, Other}
use Rattle.writer.specs.declared.Refusal.{Refusal as WriteRefusal}
use Rattle.writer.specs.Answer.{number_of as write_number_of}
use Rattle.c_interface.specs.declared.Told.{Told}

abbrev pub telling : ℕ → List ℕ → Told
telling k v = record { code = k; values = v }

abbrev pub briefly : ℕ → ℕ → ℕ → Told
briefly k a b = telling k (a ∷ b ∷ 0 ∷ 0 ∷ 0 ∷ 0 ∷ [])

-- whether there is a range, and where it starts and ends
abbrev pub bounds_of : Option Span → List ℕ
bounds_of None = 0 ∷ 0 ∷ 0 ∷ []
bounds_of (Some i) = 1 ∷ i.from ∷ i.to ∷ []

-- next's: 0 is a record, 15 more input wanted, 16 End
abbrev pub answer_told : Answer → Told
answer_told (Record r b) = telling 0 (r.start ∷ r.seq ∷ r.sep ∷ r.qual ∷ r.end ∷ b.0 ∷ [])
answer_told More = briefly 15 0 0
answer_told (WindowLimit L b) = briefly 7 L.0 b.0
answer_told (InvalidStart x L) = briefly 8 x L.0
answer_told (InvalidSeparator x L i) = telling 9 (x ∷ L.0 ∷ bounds_of i ++ 0 ∷ [])
answer_told (UnequalLengths m n L i) = telling 10 (m ∷ n ∷ L.0 ∷ bounds_of i)
answer_told (UnexpectedEnd L i) = telling 11 (L.0 ∷ bounds_of i ++ 0 ∷ 0 ∷ [])
answer_told End = briefly 16 0 0

-- feed's and a writer's: how many bytes
abbrev pub count_told : ℕ → Told
count_told n = briefly 0 n 0

-- finish's
abbrev pub ending_told : Unit {0} → Told
ending_told u = briefly 0 0 0

-- seek's: 0 is inside, 17 the byte to feed from
abbrev pub place_told : Place → Told
place_told Inside = briefly 0 0 0
place_told (FeedFrom b) = briefly 17 b.0 0

-- a set call's: how many records are listed
abbrev pub reply_told : Reply → Told
reply_told (Count n) = briefly 0 n 0
reply_told (Other a) = answer_told a

-- what is told of an answer, or the number of the refusal
abbrev pub told_by : {A R : Type 0} → (A → Told) → (R → ℕ) → Result A R → Told
told_by tell number (Ok a) = tell a
told_by tell number (Err r) = briefly (number r) 0 0

-- of a call of the reader
abbrev pub told_of : {A : Type 0} → (A → Told) → Result A Refusal → Told
told_of tell = told_by tell number_of

-- of a writer
abbrev pub written_told : Result ℕ WriteRefusal → Told
written_told = told_by count_told write_number_of

-- the same where an answer's and a refusal's are related to it
abbrev pub Tells : {A R : Type 0} → (A → Told → Type 0) → (R → ℕ → Type 0) → Result A R → Told → Type 0
Tells tells numbers (Ok a) t = tells a t
Tells tells numbers (Err r) t = (n : ℕ) × numbers r n × (t ≡ briefly n 0 0)
