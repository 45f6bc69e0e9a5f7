-- What each writer promises of its answer r and of the output `after`: which bytes it writes, and which test comes before that of the room.
-- Assumes nothing.
use Rattle.std.specs.Prelude.{ℕ, List, length, Option, Result}
use Rattle.std.proofs.Math.Option.{none}
use Rattle.reading.specs.Answer.{Five}
use Rattle.record.specs.Views.{view_test}
use Rattle.writer.specs.Bytes.{record_bytes, head_from, unchanged_bytes}
use Rattle.writer.specs.Fields.{good_fields, good_parts}
use Rattle.writer.specs.Answer.{unless, Writes}
use Rattle.writer.specs.declared.Refusal.{Refusal}
use Rattle.writer.specs.declared.Refusal.TheVariants.{BadFields, NoRecord}

-- `write_to`
abbrev pub WritesTo : List ℕ → ℕ → List ℕ → List ℕ → List ℕ → Result ℕ Refusal → List ℕ → Type 0
WritesTo out at head seq qual r after = Writes none out at (record_bytes head seq qual) r after

-- `write_parts`
abbrev pub WritesParts : List ℕ → ℕ → List ℕ → Option (List ℕ) → List ℕ → List ℕ → Result ℕ Refusal → List ℕ → Type 0
WritesParts out at id desc seq qual r after = Writes none out at (record_bytes (head_from id desc) seq qual) r after

-- `write_unchanged`: no record if the five numbers fail the view test
abbrev pub WritesUnchanged : List ℕ → ℕ → List ℕ → Five → Result ℕ Refusal → List ℕ → Type 0
WritesUnchanged out at w f r after = Writes (unless (view_test f (length w)) NoRecord) out at (unchanged_bytes w f) r after

-- `write_to_checked`: bad fields if the fields aren't good
abbrev pub WritesToChecked : List ℕ → ℕ → List ℕ → List ℕ → List ℕ → Result ℕ Refusal → List ℕ → Type 0
WritesToChecked out at head seq qual r after = Writes (unless (good_fields head seq qual) BadFields) out at (record_bytes head seq qual) r after

-- `write_parts_checked`: bad fields if the parts aren't good
abbrev pub WritesPartsChecked : List ℕ → ℕ → List ℕ → Option (List ℕ) → List ℕ → List ℕ → Result ℕ Refusal → List ℕ → Type 0
WritesPartsChecked out at id desc seq qual r after = Writes (unless (good_parts id desc seq qual) BadFields) out at (record_bytes (head_from id desc) seq qual) r after
