-- Laws of bytes copied over the front of a list.
-- Assumes nothing.
use mathlib.Core.Path.{◌≡◌, sym, ap, ◌∙◌}
use mathlib.Core.List.{List, ◌++◌}
use Prim.Native.Nat.{ℕ, ◌+◌, ◌-◌, ◌<◌, min}
use native.Mathlib.Numerals.{add-one}
use native.Mathlib.Nat.{zero-add, add_comm, min_comm}
use native.Mathlib.Omega.{arith}
use lib.ListN.{length, get_or, take, drop, set, length-take, length-drop}
use lib.Seq.{paste-suc, slice, length-take-le, get_or-append-add, get_or-drop}
use Rattle.lines.specs.Lines.{copied, moved_front}
use Rattle.lines.proofs.Laws.{take_within, drop_within, slice-take, slice_within}

-- d with the first i bytes of s over its front
abbrev pub over : List ℕ → List ℕ → ℕ → List ℕ
over d s i = take i s ++ drop i d

-- one more byte of s over the front of d
pub over_more : (d s l : List ℕ) (i : ℕ) → l ≡ over d s i → i < length d → i < length s → set l i (get_or s i 0) ≡ over d s (i + 1)
over_more d s l i e h k = rw (e, add-one i) (simp zero-add at (paste-suc d 0 s i 0 (omega arith) k))

-- as many bytes as there are, and as there is room for, are the copy
pub over_all : (d s l : List ℕ) (i : ℕ) → l ≡ over d s i → i ≡ min (length d) (length s) → l ≡ copied d s
unfolding copied
over_all d s l i e q =
    let r : drop i d ≡ drop (length s) d = rw (q, min_comm) (drop_within (length s) d) in
    e ∙ rw (r, q, take_within)

-- a byte that is not yet passed stands where it was
pub slide_read : (w : List ℕ) (start i : ℕ) → start + i < length w → get_or (over w (drop start w) i) (start + i) 0 ≡ get_or (drop start w) i 0
slide_read w start i h =
    let k : length (take i (drop start w)) ≡ i = length-take-le i (drop start w) (simp length-drop (omega arith)) in
    let q : start + i ≡ length (take i (drop start w)) + start = omega arith in
    ap (λ (j : ℕ). get_or (over w (drop start w) i) j 0) q
    ∙ get_or-append-add (take i (drop start w)) (drop i w) start 0
    ∙ rw (get_or-drop i w start 0, get_or-drop start w i 0, add_comm i start)

-- one more byte moved to the front
pub slide_more : (w l : List ℕ) (start i j : ℕ) → l ≡ over w (drop start w) i → j ≡ start + i → j < length w → set l i (get_or l j 0) ≡ over w (drop start w) (i + 1)
slide_more w l start i j e q h =
    ap (λ (x : ℕ). set l i x) (rw (e, q) (slide_read w start i (omega arith)))
    ∙ over_more w (drop start w) l i e (omega arith) (simp length-drop (omega arith))

-- as many bytes as stand from `start` up to `fill` are the move
pub slide_all : (w l : List ℕ) (start fill i : ℕ) → l ≡ over w (drop start w) i → i ≡ min fill (length w) - start → l ≡ moved_front w start fill
unfolding moved_front
slide_all w l start fill i e q =
    let r : take i (drop start w) ≡ slice start fill w = rw q (sym (slice-take start (min fill (length w)) w) ∙ slice_within start fill w) in
    let n : length (slice start fill w) ≡ i = simp (length-drop, length-take) (sym q) in
    rw (n, ← r) e
