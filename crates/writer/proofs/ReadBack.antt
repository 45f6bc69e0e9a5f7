-- What the checked writers accept is read back. A statement about a writer is one about its promise, so it holds of every call.
-- Assumes nothing.
use Prim.Native.Nat.{ℕ, ◌+◌, ◌*◌, ◌≤◌}
use native.Mathlib.Omega.{arith}
use native.Mathlib.Nat.{add-zero}
use mathlib.Core.Path.{◌≡◌, ◌∙◌}
use mathlib.Core.Option as maybe
use mathlib.Core.List.{List, [], ◌∷◌, ◌++◌}
use lib.ListN.{length, length-append}
use Rattle.reading.specs.Reading.{head_of, reading}
use Rattle.std.specs.Prelude.{Option, Ok}
use Rattle.writer.specs.declared.Refusal.{Refusal}
use Rattle.writer.specs.declared.Refusal.TheVariants.{BadFields}
use Rattle.writer.specs.Bytes.{record_bytes, head_from, laid}
use Rattle.writer.specs.Promises.{WritesToChecked, WritesPartsChecked}
use Rattle.writer.specs.Back.{Fields, fields, bytes_of, size_of, Good, StandsAt, HeldBy, placed, ReadBack, PartsShown, all_bytes, Each, tolds, AllShown, WroteAll, none, to, parts}
use Rattle.writer.proofs.Laws.{Accepted, accepted, unless_passes, laid_none, laid_on, laid-length, laid_stands, stands_split}
use Rattle.writer.proofs.Standing.{good_facts, parts_facts, stands_shown, stands_read}

-- ---- one record

-- READ BACK: good fields whose bytes stand at a place are read from there, in a window that holds them, as one record that shows them, and then comes what follows
pub good_back : (B : List ℕ) (W at L : ℕ) (f : Fields) → Good f → StandsAt B at (bytes_of f) → HeldBy W f → ReadBack B W at L f
good_back B W at L f g s w = let h = good_facts f g in record { answers = stands_read B at f s h W L w; shown = stands_shown B at f s h }

-- what `write_to_checked` accepts is read back from the output, from the place it was written to
pub to_checked_back : {out after : List ℕ} {at n : ℕ} (W L : ℕ) (head seq qual : List ℕ) → WritesToChecked out at head seq qual (Ok n) after
    → HeldBy W (fields head seq qual) → ReadBack after W at L (fields head seq qual)
to_checked_back {out} {after} {at} W L head seq qual p w =
    let a = accepted p in
    good_back after W at L (fields head seq qual) (unless_passes _ BadFields a.passes) (rw a.bytes (laid_stands out (record_bytes head seq qual) at a.room)) w

-- what `write_parts_checked` accepts is read back too, with the id and the description: an absent one stays absent, an empty one stays empty
pub parts_checked_back : {out after : List ℕ} {at n : ℕ} (W L : ℕ) (id : List ℕ) (desc : Option (List ℕ)) (seq qual : List ℕ) → WritesPartsChecked out at id desc seq qual (Ok n) after
    → HeldBy W (fields (head_from id desc) seq qual)
    → ReadBack after W at L (fields (head_from id desc) seq qual) × PartsShown (head_of after at (placed at (fields (head_from id desc) seq qual)).seq) id desc
parts_checked_back {out} {after} {at} W L id desc seq qual p w =
    let a = accepted p in
    let q = parts_facts id desc seq qual (unless_passes _ BadFields a.passes) in
    let b = good_back after W at L (fields (head_from id desc) seq qual) q.good (rw a.bytes (laid_stands out (record_bytes (head_from id desc) seq qual) at a.room)) w in
    (b, rw b.shown.head q.shown)

-- ---- several records

-- SEVERAL READ BACK: good fields whose bytes stand one after the other from a place on are read back one after the other, and then comes what follows
pub all_back : (B : List ℕ) (W at L : ℕ) (fs : List Fields) → Each Good fs → Each (HeldBy W) fs → StandsAt B at (all_bytes fs)
    → (reading B W at L ≡ tolds at L fs ++ reading B W (at + length (all_bytes fs)) (L + 4 * length fs)) × AllShown B at fs
unfolding all_bytes
all_back B W at L [] g w s = (rw (add-zero at, add-zero L), tt)
all_back B W at L (f ∷ fs) g w s =
    let p = stands_split B (bytes_of f) (all_bytes fs) at s in
    let b = good_back B W at L f g.0 p.0 w.0 in
    let r = all_back B W (at + size_of f) (L + 4) fs g.1 w.1 p.1 in
    let n : at + size_of f + length (all_bytes fs) ≡ at + length (bytes_of f ++ all_bytes fs) = simp length-append (omega arith) in
    let m : L + 4 + 4 * length fs ≡ L + 4 * length (f ∷ fs) = omega arith in
    (b.answers ∙ rw (r.0, n, m), (b.shown, r.1))

-- a record that was laid, and bytes laid behind it
laid_more : {out bs mid after : List ℕ} {at n : ℕ} {first : maybe.Option Refusal} (rest : List ℕ) → Accepted first out at bs n mid → after ≡ laid mid (at + n) rest
    → (at + n ≤ length mid → at + n + length rest ≤ length mid) → (after ≡ laid out at (bs ++ rest)) × (at ≤ length out → at + length (bs ++ rest) ≤ length out)
laid_more {out} {bs} {mid} {at = at} {n = n} rest a e r =
    let c = a.count in
    let d = a.room in
    let l : length mid ≡ length out = rw a.bytes (laid-length out bs at d) in
    (e ∙ laid_on out bs rest mid at (at + n) d (omega arith) a.bytes, λ h. let k = r (omega arith) in simp length-append (omega arith))

-- accepted calls of the checked writers, one after the other, lay the bytes of all
calls_laid : {out after : List ℕ} {at : ℕ} {fs : List Fields} → WroteAll out at fs after
    → ((after ≡ laid out at (all_bytes fs)) × (at ≤ length out → at + length (all_bytes fs) ≤ length out)) × Each Good fs
unfolding all_bytes
calls_laid (none out at) = ((laid_none out [] at, λ h. omega arith), tt)
calls_laid (to f {fs = fs} p q) =
    let a = accepted p in
    let r = calls_laid q in
    (laid_more (all_bytes fs) a r.0.0 r.0.1, (unless_passes _ BadFields a.passes, r.1))
calls_laid (parts id desc seq qual {fs = fs} p q) =
    let a = accepted p in
    let r = calls_laid q in
    (laid_more (all_bytes fs) a r.0.0 r.0.1, ((parts_facts id desc seq qual (unless_passes _ BadFields a.passes)).good, r.1))

-- what accepted calls of the checked writers wrote one after the other is read back one after the other
pub calls_back : {out after : List ℕ} {at : ℕ} (W L : ℕ) (fs : List Fields) → WroteAll out at fs after → at ≤ length out → Each (HeldBy W) fs
    → (reading after W at L ≡ tolds at L fs ++ reading after W (at + length (all_bytes fs)) (L + 4 * length fs)) × AllShown after at fs
calls_back {out} {after} {at} W L fs c h w =
    let r = calls_laid c in
    all_back after W at L fs r.1 w (rw r.0.0 (laid_stands out (all_bytes fs) at (r.0.1 h)))
