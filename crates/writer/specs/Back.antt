-- What it is to read back what was written.
-- Assumes nothing.
use Rattle.std.specs.Prelude.{ℕ, ◌+◌, ◌≤◌, ◌≡◌, true, List, [], ◌∷◌, ◌++◌, length, take, drop, Option, Some, None, Ok}
use Rattle.std.proofs.Math.Option as maybe
use Rattle.reading.specs.Answer.{Five, five, found, Told, told}
use Rattle.reading.specs.Reading.{head_of, seq_of, qual_of, id_in, desc_in, reading}
use Rattle.writer.specs.Bytes.{record_bytes, head_from}
use Rattle.writer.specs.Fields.{good_fields}
use Rattle.writer.specs.Promises.{WritesToChecked, WritesPartsChecked}

-- the fields of a record
pub record Fields : Type 0 where
  pub head : List ℕ
  pub seq : List ℕ
  pub qual : List ℕ

abbrev pub fields : List ℕ → List ℕ → List ℕ → Fields
fields head seq qual = record { head = head; seq = seq; qual = qual }

-- the bytes that they are written as
abbrev pub bytes_of : Fields → List ℕ
bytes_of f = record_bytes f.head f.seq f.qual

-- how many they are
abbrev pub size_of : Fields → ℕ
size_of f = length (bytes_of f)

-- a checked writer accepts them
abbrev pub Good : Fields → Type 0
Good f = good_fields f.head f.seq f.qual ≡ true

-- bytes bs stand in B from a place on
abbrev pub StandsAt : List ℕ → ℕ → List ℕ → Type 0
StandsAt B at bs = take (length bs) (drop at B) ≡ bs

-- a window of W bytes holds the written bytes of the fields
abbrev pub HeldBy : ℕ → Fields → Type 0
HeldBy W f = size_of f ≤ W

-- the five numbers of the record that is written at a place
abbrev pub placed : ℕ → Fields → Five
placed at f =
    five
    at
    (at + length f.head + 2)
    (at + length f.head + length f.seq + 3)
    (at + length f.head + length f.seq + 5)
    (at + length f.head + length f.seq + length f.qual + 5)

-- the views of the record r are the fields, byte for byte
pub record Shown (B : List ℕ) (r : Five) (f : Fields) : Type 0 where
  pub head : head_of B r.start r.seq ≡ f.head
  pub seq : seq_of B r ≡ f.seq
  pub qual : qual_of B r ≡ f.qual

-- read from a place and line L on, the fields are one record, and then comes what follows it
pub record ReadBack (B : List ℕ) (W at L : ℕ) (f : Fields) : Type 0 where
  pub answers : reading B W at L ≡ told L at (found (placed at f)) ∷ reading B W (at + size_of f) (L + 4)
  pub shown : Shown B (placed at f) f

-- a description as `desc_in` tells it
abbrev pub told_desc : Option (List ℕ) → maybe.Option (List ℕ)
told_desc None = maybe.none
told_desc (Some desc) = maybe.some desc

-- the head shows the id and the description, which is absent or there as it was given
pub record PartsShown (head id : List ℕ) (desc : Option (List ℕ)) : Type 0 where
  pub id_is : id_in head ≡ id
  pub desc_is : desc_in head ≡ told_desc desc

-- ---- several records, one after the other

-- their bytes, one after the other
unfoldable pub all_bytes : List Fields → List ℕ
all_bytes [] = []
all_bytes (f ∷ fs) = bytes_of f ++ all_bytes fs

-- what holds of each of the fields
abbrev pub Each : (Fields → Type 0) → List Fields → Type 0
Each P [] = Unit {0}
Each P (f ∷ fs) = P f × Each P fs

-- the answers: a record for each, at its place and line
abbrev pub tolds : ℕ → ℕ → List Fields → List Told
tolds at L [] = []
tolds at L (f ∷ fs) = told L at (found (placed at f)) ∷ tolds (at + size_of f) (L + 4) fs

-- the views of each are its fields
abbrev pub AllShown : List ℕ → ℕ → List Fields → Type 0
AllShown B at [] = Unit {0}
AllShown B at (f ∷ fs) = Shown B (placed at f) f × AllShown B (at + size_of f) fs

-- calls of the checked writers one after the other, each accepted, from the place where the one before ended: they turn the output `out` into `after`
pub data WroteAll : List ℕ → ℕ → List Fields → List ℕ → Type 0 where
  none : (out : List ℕ) (at : ℕ) → WroteAll out at [] out
  to : {out mid after : List ℕ} {at n : ℕ} (f : Fields) {fs : List Fields} → WritesToChecked out at f.head f.seq f.qual (Ok n) mid → WroteAll mid (at + n) fs after
      → WroteAll out at (f ∷ fs) after
  parts : {out mid after : List ℕ} {at n : ℕ} (id : List ℕ) (desc : Option (List ℕ)) (seq qual : List ℕ) {fs : List Fields}
      → WritesPartsChecked out at id desc seq qual (Ok n) mid → WroteAll mid (at + n) fs after → WroteAll out at (fields (head_from id desc) seq qual ∷ fs) after
