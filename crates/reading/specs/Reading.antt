-- "Reading a whole file" of document 01, sentence by sentence: bytes B, a window size W, a start p, a line number L.
-- Assumes nothing.
use Rattle.std.specs.Prelude.{ℕ, zero, suc, ◌+◌, ◌-◌, Bool, true, false, cond, ◌||◌, List, [], ◌∷◌, length, get_or, take, drop, leb, ltb, eqb}
use Rattle.std.proofs.Math.Option.{Option, none, some}
use Rattle.std.proofs.Math.Seq.{slice}
use Rattle.reading.specs.Bytes.{AT, PLUS, byte_at, line_ends, trim_cr, pieces, all_blank, id_length}
use Rattle.reading.specs.Answer.{Five, five, Id, absent, range, Answer, found, window_limit, invalid_start, invalid_separator, unequal_lengths, unexpected_end, ended, Told, told}

-- ---- views: head is p+1 to seq-1, sequence is seq to sep-1, quality is qual to end, each after `trim_cr`

unfoldable pub head_of : List ℕ → ℕ → ℕ → List ℕ
head_of B p seq = trim_cr (slice (p + 1) (seq - 1) B)

unfoldable pub seq_of : List ℕ → Five → List ℕ
seq_of B r = trim_cr (slice r.seq (r.sep - 1) B)

unfoldable pub qual_of : List ℕ → Five → List ℕ
qual_of B r = trim_cr (slice r.qual r.end B)

-- the id is the head up to its first space
abbrev pub id_in : List ℕ → List ℕ
id_in h = take (id_length h) h

-- the description is what follows that space, and is absent without one
abbrev pub desc_in : List ℕ → Option (List ℕ)
desc_in h = cond (ltb (id_length h) (length h)) (some (drop (id_length h + 1) h)) none

-- an error's id is a byte range, present if the first line is longer than its LF; it may be empty
unfoldable pub error_id : List ℕ → ℕ → ℕ → Id
error_id B p seq = cond (ltb (p + 1) seq) (range (p + 1) (p + 1 + id_length (head_of B p seq))) absent

-- ---- validation, in this order

pub data Verdict : Type 0 where
  good : Verdict
  -- the byte found
  bad_start : ℕ → Verdict
  -- the byte found, the id
  bad_separator : ℕ → Id → Verdict
  -- both lengths after `trim_cr`, the id
  bad_lengths : ℕ → ℕ → Id → Verdict

-- byte at p is `@`
abbrev pub starts_well : List ℕ → Five → Bool
starts_well B r = eqb (byte_at B r.start) AT

-- byte at `sep` is `+`
abbrev pub has_plus : List ℕ → Five → Bool
has_plus B r = eqb (byte_at B r.sep) PLUS

-- sep - seq = end - qual + 1: raw lengths are compared, each counted with its line end (`B` is for a rule that looks at the bytes)
unfoldable pub lengths_agree : List ℕ → Five → Bool
lengths_agree B r = eqb (r.sep - r.seq) (r.end - r.qual + 1)

abbrev pub verdict : List ℕ → Five → Bool → Bool → Bool → Verdict
verdict B r false plus equal = bad_start (byte_at B r.start)
verdict B r true false equal = bad_separator (byte_at B r.sep) (error_id B r.start r.seq)
verdict B r true true false = bad_lengths (length (seq_of B r)) (length (qual_of B r)) (error_id B r.start r.seq)
verdict B r true true true = good

unfoldable pub validate : List ℕ → Five → Verdict
validate B r = verdict B r (starts_well B r) (has_plus B r) (lengths_agree B r)

-- ---- one step

pub data Step : Type 0 where
  -- a complete record: answer it and go on at end + 1 with L + 4
  onward : Five → Step
  -- a record with no final LF: answer it, and the next answer is End
  unended : Five → Step
  -- an answer that closes the reading
  closing : Answer → Step

-- what the verdict on a record makes of the step that it would be; the errors' lines
abbrev pub judged : ℕ → Step → Verdict → Step
judged L s good = s
judged L s (bad_start b) = closing (invalid_start b L)
judged L s (bad_separator b i) = closing (invalid_separator b (L + 2) i)
judged L s (bad_lengths n m i) = closing (unequal_lengths n m L i)

-- R is B from p on, empty if p is past B's end
abbrev pub rest : List ℕ → ℕ → List ℕ
rest B p = drop p B

-- the LFs among the first min(W, length of R) bytes of R
abbrev pub seen : List ℕ → ℕ → ℕ → List ℕ
seen B W p = line_ends p (take W (rest B p))

-- `seq`, `sep`, `qual` are the offsets after the first, second and third LF
abbrev pub record_of : ℕ → List ℕ → ℕ → Five
record_of p es end = five p (get_or es 0 0 + 1) (get_or es 1 0 + 1) (get_or es 2 0 + 1) end

-- four LFs: `end` is the offset of the fourth. Validate; if it passes, answer the record and go on
unfoldable pub complete : List ℕ → ℕ → ℕ → List ℕ → Step
complete B p L es = let r = record_of p es (get_or es 3 0) in judged L (onward r) (validate B r)

-- the id of an unexpected end: only if there was an LF
abbrev pub end_id : List ℕ → ℕ → List ℕ → Id
end_id B p [] = absent
end_id B p (e ∷ es) = error_id B p (e + 1)

-- by the tests: three LFs; every piece is blank
abbrev pub tail_by : List ℕ → ℕ → ℕ → List ℕ → Bool → Bool → Step
tail_by B p L es true blank = let r = record_of p es (length B) in judged L (unended r) (validate B r)
tail_by B p L es false true = closing ended
tail_by B p L es false false = closing (unexpected_end (L + length es) (end_id B p es))

-- the tail rule. Three LFs: `end` is the length of B; validate. Nought to two: split R at each LF;
-- if every piece is empty after `trim_cr`, End, otherwise unexpected end at line L + (number of LFs)
unfoldable pub tail_rule : List ℕ → ℕ → ℕ → List ℕ → Step
tail_rule B p L es = tail_by B p L es (eqb (length es) 3) (all_blank (pieces B p es))

-- by the tests: four LFs; R has W bytes or more
abbrev pub step_by : List ℕ → ℕ → ℕ → List ℕ → Bool → Bool → Step
step_by B p L es true full = complete B p L es
step_by B p L es false true = closing (window_limit L p)
step_by B p L es false false = tail_rule B p L es

-- the step at p and L, where `es` are the LFs of the bytes looked at
abbrev pub step_with : List ℕ → ℕ → ℕ → ℕ → List ℕ → Step
step_with B W p L es = step_by B p L es (leb 4 (length es)) (leb W (length (rest B p)))

unfoldable pub step_at : List ℕ → ℕ → ℕ → ℕ → Step
step_at B W p L = step_with B W p L (seen B W p)

-- the step is settled by the bytes F at hand: four line ends, or W bytes
abbrev pub settled : List ℕ → ℕ → ℕ → Bool
settled F W p = leb 4 (length (seen F W p)) || leb W (length (rest F p))

-- ---- the whole reading

-- a step's answer with the position after it, and the answers of the reading from the next start on
abbrev pub follow : (ℕ → ℕ → List Told) → ℕ → ℕ → Step → List Told
follow k p L (onward r) = told L p (found r) ∷ k (r.end + 1) (L + 4)
follow k p L (unended r) = told L p (found r) ∷ told L p ended ∷ []
follow k p L (closing a) = told L p a ∷ []

-- at most n steps
unfoldable pub read_for : ℕ → List ℕ → ℕ → ℕ → ℕ → List Told
read_for zero B W p L = []
read_for (suc n) B W p L = follow (λ q M. read_for n B W q M) p L (step_at B W p L)

-- the answers up to the one that closes the reading; a step starts past the one before, so length B + 1 steps are enough (`reading_is`)
unfoldable pub reading : List ℕ → ℕ → ℕ → ℕ → List Told
reading B W p L = read_for (length B + 1) B W p L

-- n Ends, which keep the position
abbrev pub ends : ℕ → ℕ → ℕ → List Told
ends zero L p = []
ends (suc n) L p = told L p ended ∷ ends n L p

-- n answers: those given, and after the last of them End, which keeps its position
unfoldable pub padded : ℕ → List Told → List Told
padded zero ts = []
padded (suc n) [] = []
padded (suc n) (t ∷ []) = t ∷ ends n t.line t.byte
padded (suc n) (t ∷ u ∷ ts) = t ∷ padded n (u ∷ ts)

-- the first n answers: an error, the window limit or End closes the reading; every later answer is End and keeps the position
unfoldable pub first : ℕ → List ℕ → ℕ → ℕ → ℕ → List Told
first n B W p L = padded n (reading B W p L)
