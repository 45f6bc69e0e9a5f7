-- Laws of the table: entries that are stored one by one stand over its front.
-- Assumes nothing.
use mathlib.Core.Path.{◌≡◌, refl, sym, ap, ◌∙◌}
use mathlib.Core.List.{List, [], ◌∷◌}
use Prim.Native.Nat.{ℕ, zero, suc, ◌+◌, ◌*◌, ◌/◌, ◌<◌, ◌≤◌, min}
use native.Mathlib.Omega.{arith}
use native.Mathlib.Nat.{div-mul-le_self}
use lib.ListN.{length, set}
use lib.Seq.{sets, sets-eq, length-sets}
use Rattle.record.specs.declared.Record.{Record}
use Rattle.reader.specs.declared.Reader.{Reader}
use Rattle.reader.specs.Next.{next_of}
use Rattle.std.specs.Prelude.{Option, Some, None}
use Rattle.sets.specs.declared.Run.{Run}
use Rattle.sets.specs.Inside.{step_of, begin_of, left_of, Ready}
use Rattle.sets.proofs.Runs.{step_count, step_left, end_left, begin_count, begin_left}
use Rattle.sets.specs.Sets.{row_in, collected_by, collected, numbers_of, rows_of, over, records_of, table_of, entries_of}

-- at most n records are collected
pub collected_most : (n : ℕ) (s : Reader) (w : List ℕ) → length (collected n s w).records ≤ n
unfolding collected
collected_most zero s w = omega arith
collected_most (suc n) s w = go (row_in (next_of s w).answer) (collected_most n (next_of s w).state w)
  where
    go : (o : Option Record) → length (collected n (next_of s w).state w).records ≤ n → length (collected_by (λ t. collected n t w) s (next_of s w).state o).records ≤ suc n
    go (Some r) h = omega arith
    go None h = omega arith

pub rows_length : (rs : List Record) → length (rows_of rs) ≡ length rs * 5
unfolding rows_of
rows_length [] = refl
rows_length (r ∷ rs) = omega (arith, rows_length rs)

-- stores from the front on, where there is room for them
pub sets_over : {A : Type 0} (xs t : List A) → length xs ≤ length t → sets t 0 xs ≡ over xs t
sets_over xs t h = let z : 0 + length xs ≡ length xs = omega arith in sets-eq xs t 0 (omega arith) ∙ rw z

-- five stores, one behind the other
pub put_is : (t : List ℕ) (at : ℕ) (r : Record)
    → set (set (set (set (set t at r.start) (at + 1) r.seq) (at + 2) r.sep) (at + 3) r.qual) (at + 4) r.end ≡ sets t at (numbers_of r)
put_is t at r =
    let a : at + 1 ≡ suc at = omega arith in
    let b : at + 2 ≡ suc (suc at) = omega arith in
    let c : at + 3 ≡ suc (suc (suc at)) = omega arith in
    let d : at + 4 ≡ suc (suc (suc (suc at))) = omega arith in
    rw (a, b, c, d)

-- one entry more is stored
pub rows_turn : (t : List ℕ) (k : ℕ) (r : Record) (rs : List Record) → sets t (k * 5) (rows_of (r ∷ rs)) ≡ sets (sets t (k * 5) (numbers_of r)) ((k + 1) * 5) (rows_of rs)
unfolding rows_of
rows_turn t k r rs =
    let z : suc (suc (suc (suc (suc (k * 5))))) ≡ (k + 1) * 5 = omega arith in
    ap (λ (i : ℕ). sets (sets t (k * 5) (numbers_of r)) i (rows_of rs)) z

-- a turn of the loop over numbers: t' is the table after it, and u the run
pub turn_rows : (r u : Run) (w t t' : List ℕ) (i : Record) → r.entry ≡ Some i → r.count < r.wanted → u ≡ step_of r w → t' ≡ sets t (r.count * 5) (numbers_of i)
    → sets t' (u.count * 5) (rows_of (left_of u w)) ≡ sets t (r.count * 5) (rows_of (left_of r w))
turn_rows r u w t t' i m h e f =
    let left = left_of (step_of r w) w in
    rw (f, e, step_left r w i m h)
    (ap (λ (j : ℕ). sets (sets t (r.count * 5) (numbers_of i)) (j * 5) (rows_of left)) (step_count r w i m h) ∙ sym (rows_turn t r.count i left))

-- where nothing is left to list, the table is as it is to be
pub end_rows : (r : Run) (w t : List ℕ) (i : ℕ) → r.entry ≡ None → t ≡ sets t i (rows_of (left_of r w))
unfolding rows_of
end_rows r w t i m = rw (end_left r w m)

-- an entry that is to be listed has its place
pub entry_fits : (r : Run) (n : ℕ) (i : Record) → r.entry ≡ Some i → Ready r (n / 5) → r.count * 5 + 5 ≤ n
entry_fits r n i m f = omega (arith, f.ahead i m, f.fits, div-mul-le_self n 5)

-- the table after a set call, as it was stored
table_is : (s : Reader) (w : List ℕ) (wanted : ℕ) (t : List ℕ) → sets t 0 (rows_of (records_of s w (length t / 5) wanted)) ≡ table_of s w wanted t
unfolding table_of
table_is s w wanted t =
    let n = length t / 5 in
    let a : n * 5 ≤ length t = div-mul-le_self (length t) 5 in
    let b = collected_most (min wanted n) s w in
    let rs = records_of s w n wanted in
    sets_over (rows_of rs) t (rw (rows_length rs) (omega arith))

-- it is as long as it was
pub table_length : (s : Reader) (w : List ℕ) (wanted : ℕ) (t : List ℕ) → length (table_of s w wanted t) ≡ length t
table_length s w wanted t = ap length (sym (table_is s w wanted t)) ∙ length-sets t 0 (rows_of (records_of s w (length t / 5) wanted))

-- what is left to list at the beginning makes the table
pub begin_rows : (s : Reader) (w : List ℕ) (wanted : ℕ) (t : List ℕ) (r : Run) → r ≡ begin_of s w (length t / 5) wanted → sets t (r.count * 5) (rows_of (left_of r w)) ≡ table_of s w wanted t
begin_rows s w wanted t r e =
    let room = length t / 5 in
    rw (e, begin_left s w room wanted)
    (ap (λ (i : ℕ). sets t (i * 5) (rows_of (records_of s w room wanted))) (begin_count s w room wanted) ∙ table_is s w wanted t)

-- ---- a table of entries

-- a turn of the loop over entries: u is the run after it
pub turn_entries : (r u : Run) (w : List ℕ) (t : List Record) (i : Record) → r.entry ≡ Some i → r.count < r.wanted → u ≡ step_of r w
    → sets (set t r.count i) u.count (left_of u w) ≡ sets t r.count (left_of r w)
turn_entries r u w t i m h e =
    let z : r.count + 1 ≡ suc r.count = omega arith in
    rw (e, step_left r w i m h)
    (ap (λ (j : ℕ). sets (set t r.count i) j (left_of (step_of r w) w)) (step_count r w i m h ∙ z))

-- where nothing is left to list, the table is as it is to be
pub end_entries : (r : Run) (w : List ℕ) (t : List Record) (i : ℕ) → r.entry ≡ None → t ≡ sets t i (left_of r w)
end_entries r w t i m = rw (end_left r w m)

-- what is left to list at the beginning makes the table
pub begin_entries : (s : Reader) (w : List ℕ) (wanted : ℕ) (t : List Record) (r : Run) → r ≡ begin_of s w (length t) wanted → sets t r.count (left_of r w) ≡ entries_of s w wanted t
unfolding entries_of
begin_entries s w wanted t r e =
    let n = length t in
    let b = collected_most (min wanted n) s w in
    rw (e, begin_left s w n wanted)
    (ap (λ (i : ℕ). sets t i (records_of s w n wanted)) (begin_count s w n wanted) ∙ sets_over (records_of s w n wanted) t (omega arith))
