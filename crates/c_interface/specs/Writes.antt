-- What a writer answers through the interface, and what it leaves in the values and in the output.
-- Assumes nothing.
use Rattle.std.specs.Prelude.{ℕ, ◌≡◌, Bool, true, false, List, length, take, ltb, Option, Result}
use Rattle.std.proofs.Math.Option as maybe
use Rattle.std.proofs.lemmas.List.Edits.{sets}
use Rattle.reading.specs.Answer.{Five}
use Rattle.record.specs.Views.{view_test}
use Rattle.writer.specs.Bytes.{record_bytes, head_from, unchanged_bytes, laid}
use Rattle.writer.specs.Answer.{written, unless, answer}
use Rattle.writer.specs.declared.Refusal.{Refusal}
use Rattle.writer.specs.declared.Refusal.TheVariants.{NoRecord}
use Rattle.c_interface.specs.Told.{written_told}

-- a code, the values and the output afterwards
pub record Put : Type 0 where
  pub code : ℕ
  pub values : List ℕ
  pub out : List ℕ

-- as many of the bytes bs as the answer says, from the place on
abbrev pub put_of : List ℕ → List ℕ → ℕ → List ℕ → Result ℕ Refusal → Put
put_of v out at bs w =
    record { code = (written_told w).code; values = sets v 0 (written_told w).values; out = laid out at (take (written w) bs) }

-- nothing is written
abbrev pub untouched : List ℕ → List ℕ → Put
untouched v out = record { code = 2; values = v; out = out }

-- by the test: there is no room for 6 values
abbrev pub write_by : List ℕ → maybe.Option Refusal → List ℕ → ℕ → List ℕ → Bool → Put
write_by v first out at bs true = untouched v out
write_by v first out at bs false = put_of v out at bs (answer first out at bs)

-- a write of bytes bs, after a test that comes before that of the room
unfoldable pub writing : List ℕ → maybe.Option Refusal → List ℕ → ℕ → List ℕ → Put
writing v first out at bs = write_by v first out at bs (ltb (length v) 6)

abbrev pub write_to : List ℕ → List ℕ → ℕ → List ℕ → List ℕ → List ℕ → Put
write_to v out at head seq qual = writing v maybe.none out at (record_bytes head seq qual)

abbrev pub write_parts : List ℕ → List ℕ → ℕ → List ℕ → Option (List ℕ) → List ℕ → List ℕ → Put
write_parts v out at id desc seq qual = writing v maybe.none out at (record_bytes (head_from id desc) seq qual)

abbrev pub write_unchanged : List ℕ → List ℕ → ℕ → List ℕ → Five → Put
write_unchanged v out at w f = writing v (unless (view_test f (length w)) NoRecord) out at (unchanged_bytes w f)

-- the code r, with these values and this output afterwards
pub record Puts (r : ℕ) (v after : List ℕ) (x : Put) : Type 0 where
  pub code : r ≡ x.code
  pub values : v ≡ x.values
  pub out : after ≡ x.out
