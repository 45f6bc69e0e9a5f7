-- What an answer says of the output, by a number of bytes or by a refusal; and that a promise allows one answer only.
-- Assumes nothing.
use Prim.Native.Nat.{ℕ, ◌+◌, ◌-◌, ◌≤◌}
use native.Mathlib.Omega.{arith}
use mathlib.Core.Path.{◌≡◌, sym, ◌∙◌}
use mathlib.Core.Bool.{true}
use mathlib.Core.Option as maybe
use mathlib.Core.Option.{none}
use mathlib.Core.List.{List, [], ◌∷◌, ◌++◌}
use lib.ListN.{length, take, drop, length-append}
use lib.Seq.{slice, length-slice}
use borrow.Author.Tests.{le-leb}
use Rattle.reading.specs.Bytes.{LF}
use Rattle.reading.specs.Answer.{Five}
use Rattle.record.proofs.Views.{fits_facts}
use Rattle.std.specs.Prelude.{Option, Some, None, Result, Ok, Err}
use Rattle.writer.specs.declared.Refusal.{Refusal}
use Rattle.writer.specs.declared.Refusal.TheVariants.{NoRecord}
use Rattle.writer.specs.Bytes.{record_bytes, head_from, desc_size, laid}
use Rattle.writer.specs.Fields.{good_fields, good_parts}
use Rattle.writer.specs.Answer.{number_of, Writes, answer}
use Rattle.writer.specs.Promises.{WritesTo, WritesParts, WritesUnchanged, WritesToChecked, WritesPartsChecked}
use Rattle.writer.proofs.Laws.{accepted, unless_passes, kept, one_answer, record_length, laid_others}

-- ---- a number of bytes

-- `write_to` writes head + seq + qual + 6 bytes: exactly the definition's
pub to_bytes : {out after : List ℕ} {at n : ℕ} (head seq qual : List ℕ) → WritesTo out at head seq qual (Ok n) after
    → (n ≡ length head + length seq + length qual + 6) × (after ≡ laid out at (record_bytes head seq qual))
to_bytes head seq qual p = let a = accepted p in (a.count ∙ record_length head seq qual, a.bytes)

head_size : (id : List ℕ) (desc : Option (List ℕ)) → length (head_from id desc) ≡ length id + desc_size desc
head_size id None = omega arith
head_size id (Some desc) = simp length-append (omega arith)

-- `write_parts` writes id + seq + qual + 6 bytes, and description + 1 where given: exactly the definition's
pub parts_bytes : {out after : List ℕ} {at n : ℕ} (id : List ℕ) (desc : Option (List ℕ)) (seq qual : List ℕ) → WritesParts out at id desc seq qual (Ok n) after
    → (n ≡ length id + desc_size desc + length seq + length qual + 6) × (after ≡ laid out at (record_bytes (head_from id desc) seq qual))
parts_bytes id desc seq qual p = let a = to_bytes (head_from id desc) seq qual p in (omega (arith, a.0, head_size id desc), a.1)

-- `write_unchanged` writes the bytes from start to end, and LF
pub unchanged_bytes_lem : {out after : List ℕ} {at n : ℕ} (w : List ℕ) (f : Five) → WritesUnchanged out at w f (Ok n) after
    → (n ≡ f.end - f.start + 1) × (after ≡ laid out at (slice f.start f.end w ++ LF ∷ []))
unchanged_bytes_lem w f p =
    let a = accepted p in
    let g = fits_facts f (length w) (unless_passes _ NoRecord a.passes) in
    (a.count ∙ rw (length-append, length-slice f.start f.end w g.inside), a.bytes)

-- whatever a writer wrote, the bytes before the place and behind what it wrote keep their values
pub others_kept : {first : maybe.Option Refusal} {out bs after : List ℕ} {at n : ℕ} → Writes first out at bs (Ok n) after → (take at after ≡ take at out) × (drop (at + n) after ≡ drop (at + n) out)
others_kept {out = out} {bs = bs} {at = at} p = let a = accepted p in rw (a.bytes, a.count) (laid_others out bs at a.room)

-- good fields for which there is room are never refused
pub good_written : {out after : List ℕ} {at : ℕ} {r : Result ℕ Refusal} (head seq qual : List ℕ) → good_fields head seq qual ≡ true → at + length (record_bytes head seq qual) ≤ length out
    → WritesToChecked out at head seq qual r after → r ≡ Ok (length (record_bytes head seq qual))
unfolding answer
good_written {out} {at = at} head seq qual g h p = p.answered ∙ rw (g, le-leb (at + length (record_bytes head seq qual)) (length out) h)

-- nor are good parts
pub parts_written : {out after : List ℕ} {at : ℕ} {r : Result ℕ Refusal} (id : List ℕ) (desc : Option (List ℕ)) (seq qual : List ℕ) → good_parts id desc seq qual ≡ true
    → at + length (record_bytes (head_from id desc) seq qual) ≤ length out → WritesPartsChecked out at id desc seq qual r after → r ≡ Ok (length (record_bytes (head_from id desc) seq qual))
unfolding answer
parts_written {out} {at = at} id desc seq qual g h p = p.answered ∙ rw (g, le-leb (at + length (record_bytes (head_from id desc) seq qual)) (length out) h)

-- ---- refusals

-- a refusal of `write_to` leaves the output as it was
pub to_refused : {out after : List ℕ} {at : ℕ} {k : Refusal} (head seq qual : List ℕ) → WritesTo out at head seq qual (Err k) after → after ≡ out
to_refused head seq qual p = kept p

-- a refusal of `write_parts` leaves the output as it was
pub parts_refused : {out after : List ℕ} {at : ℕ} {k : Refusal} (id : List ℕ) (desc : Option (List ℕ)) (seq qual : List ℕ) → WritesParts out at id desc seq qual (Err k) after → after ≡ out
parts_refused id desc seq qual p = kept p

-- a refusal of `write_unchanged` leaves the output as it was
pub unchanged_refused : {out after : List ℕ} {at : ℕ} {k : Refusal} (w : List ℕ) (f : Five) → WritesUnchanged out at w f (Err k) after → after ≡ out
unchanged_refused w f p = kept p

-- a refusal of `write_to_checked` leaves the output as it was
pub to_checked_refused : {out after : List ℕ} {at : ℕ} {k : Refusal} (head seq qual : List ℕ) → WritesToChecked out at head seq qual (Err k) after → after ≡ out
to_checked_refused head seq qual p = kept p

-- a refusal of `write_parts_checked` leaves the output as it was
pub parts_checked_refused : {out after : List ℕ} {at : ℕ} {k : Refusal} (id : List ℕ) (desc : Option (List ℕ)) (seq qual : List ℕ) → WritesPartsChecked out at id desc seq qual (Err k) after → after ≡ out
parts_checked_refused id desc seq qual p = kept p

-- ---- one answer only

-- two answers that `write_all` may give to one call are equal, and so are the outputs: bs are its parts, one behind the other
pub all_one : {out a b : List ℕ} {at : ℕ} {r s : Result ℕ Refusal} (bs : List ℕ) → Writes none out at bs r a → Writes none out at bs s b → (r ≡ s) × (a ≡ b)
all_one bs p q = one_answer p q

-- and so are two numbers of one refusal
pub number_one : (k : Refusal) (m n : ℕ) → m ≡ number_of k → n ≡ number_of k → m ≡ n
number_one k m n p q = p ∙ sym q

-- two answers that `write_to` may give to one call are equal, and so are the outputs
pub to_one : {out a b : List ℕ} {at : ℕ} {r s : Result ℕ Refusal} (head seq qual : List ℕ) → WritesTo out at head seq qual r a → WritesTo out at head seq qual s b → (r ≡ s) × (a ≡ b)
to_one head seq qual p q = one_answer p q

-- two answers that `write_parts` may give to one call are equal, and so are the outputs
pub parts_one : {out a b : List ℕ} {at : ℕ} {r s : Result ℕ Refusal} (id : List ℕ) (desc : Option (List ℕ)) (seq qual : List ℕ)
    → WritesParts out at id desc seq qual r a → WritesParts out at id desc seq qual s b → (r ≡ s) × (a ≡ b)
parts_one id desc seq qual p q = one_answer p q

-- two answers that `write_unchanged` may give to one call are equal, and so are the outputs
pub unchanged_one : {out a b : List ℕ} {at : ℕ} {r s : Result ℕ Refusal} (w : List ℕ) (f : Five) → WritesUnchanged out at w f r a → WritesUnchanged out at w f s b → (r ≡ s) × (a ≡ b)
unchanged_one w f p q = one_answer p q

-- two answers that `write_to_checked` may give to one call are equal, and so are the outputs
pub to_checked_one : {out a b : List ℕ} {at : ℕ} {r s : Result ℕ Refusal} (head seq qual : List ℕ)
    → WritesToChecked out at head seq qual r a → WritesToChecked out at head seq qual s b → (r ≡ s) × (a ≡ b)
to_checked_one head seq qual p q = one_answer p q

-- two answers that `write_parts_checked` may give to one call are equal, and so are the outputs
pub parts_checked_one : {out a b : List ℕ} {at : ℕ} {r s : Result ℕ Refusal} (id : List ℕ) (desc : Option (List ℕ)) (seq qual : List ℕ)
    → WritesPartsChecked out at id desc seq qual r a → WritesPartsChecked out at id desc seq qual s b → (r ≡ s) × (a ≡ b)
parts_checked_one id desc seq qual p q = one_answer p q
