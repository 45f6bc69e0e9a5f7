-- The tally of a reading: it is that of its first answers once they are enough, and a reading of n bytes has at most n records.
-- Assumes nothing.
use Prim.Native.Nat.{ℕ, zero, suc, ◌+◌, ◌≤◌, ◌<◌}
use native.Mathlib.Omega.{arith}
use mathlib.Core.Path.{◌≡◌, refl, sym, ap, ◌∙◌}
use mathlib.Core.Bool.{true, false}
use mathlib.Core.Option.{some}
use mathlib.Core.List.{List, [], ◌∷◌, ◌++◌}
use lib.ListN.{length, length-append}
use Rattle.reading.specs.Answer.{Told}
use Rattle.reading.specs.Lists.{is_found, Closed, last, more}
use Rattle.reading.specs.Reading.{reading, padded, first}
use Rattle.reading.proofs.Readings.{reading_closes, reading_short}
use Rattle.protocol.specs.Tallies.{Tallied, tally_of}

-- k records more
abbrev pub plus : ℕ → Tallied → Tallied
plus k r = record { records = k + r.records; closing = r.closing }

-- one record more, and k
pub plus_one : (k : ℕ) (r : Tallied) → plus (k + 1) r ≡ plus k (record { records = suc r.records; closing = r.closing })
plus_one k r = let e : k + 1 + r.records ≡ k + suc r.records = omega arith in rw e

-- a record is counted
pub tally_record : (t : Told) (ts : List Told) → is_found t.answer ≡ true → tally_of (t ∷ ts) ≡ record { records = suc (tally_of ts).records; closing = (tally_of ts).closing }
unfolding tally_of
tally_record t ts e = rw e

-- an answer that is none closes
pub tally_closing : (t : Told) (ts : List Told) → is_found t.answer ≡ false → tally_of (t ∷ ts) ≡ record { records = 0; closing = some t }
unfolding tally_of
tally_closing t ts e = rw e

-- Ends after the last answer are not counted
pub tally_padded : (n : ℕ) (ts : List Told) → Closed ts → length ts ≤ n → tally_of (padded n ts) ≡ tally_of ts
unfolding padded
tally_padded zero _ (last t e) h = absurd (omega arith)
tally_padded (suc n) _ (last t e) h = tally_closing t _ e ∙ sym (tally_closing t [] e)
tally_padded zero _ (more t e c) h = absurd (omega arith)
tally_padded (suc n) _ (more t e (last u f)) h =
    let q = tally_padded n (u ∷ []) (last u f) (omega arith) in tally_record t _ e ∙ rw q (sym (tally_record t _ e))
tally_padded (suc n) _ (more t e (more u {ts = ts} f c)) h =
    let q = tally_padded n (u ∷ ts) (more u f c) (omega arith) in tally_record t _ e ∙ rw q (sym (tally_record t _ e))

-- THE TALLY OF A CLOSED LIST counts all its answers but the last, and that one is the closing answer
pub tally_whole : (ts : List Told) → Closed ts → (pre : List Told) × (t : Told) × (ts ≡ pre ++ (t ∷ [])) × (tally_of ts ≡ record { records = length pre; closing = some t })
tally_whole _ (last t e) = ([], t, refl, tally_closing t [] e)
tally_whole _ (more u {ts = ts} e c) = let (pre, t, q, r) = tally_whole ts c in (u ∷ pre, t, ap (λ (l : List Told). u ∷ l) q, tally_record u ts e ∙ rw r)

-- AT MOST n RECORDS: a reading of n bytes has at most n records
pub records_few : (B : List ℕ) (W : ℕ) → (tally_of (reading B W 0 1)).records ≤ length B
records_few B W =
    let (pre, t, q, r) = tally_whole (reading B W 0 1) (reading_closes B W 0 1) in
    omega (arith, ap (λ (x : Tallied). x.records) r, ap length q, length-append pre (t ∷ []), reading_short B W 0 1)

-- more first answers than there are bytes have the tally of the reading
pub tally_first : (n : ℕ) (B : List ℕ) (W : ℕ) → length B < n → tally_of (first n B W 0 1) ≡ tally_of (reading B W 0 1)
unfolding first
tally_first n B W h = tally_padded n (reading B W 0 1) (reading_closes B W 0 1) (omega (arith, reading_short B W 0 1))
