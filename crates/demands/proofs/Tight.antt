-- TIGHTNESS: two answers that one promise allows are equal, one statement for each public function of lines, record and reader.
-- (The writers' are in writer/proofs/Answers, the set calls' in sets/proofs.) Assumes nothing.
use Prim.Native.Nat.{min, ◌-◌, ℕ}
use native.Mathlib.Omega.{arith}
use mathlib.Core.Path.{◌≡◌, sym, ◌∙◌}
use mathlib.Core.List.{List}
use denote.Ref.{Bor}
use Rattle.std.specs.Prelude.{Option, Some, None, is_some, IfSome, length, ◌==◌, position}
use Rattle.reading.specs.Bytes.{trim_cr, id_length}
use Rattle.reading.specs.Reading.{validate, error_id}
use Rattle.lines.specs.Lines.{line_from, copied, moved_front}
use Rattle.record.specs.declared.Noted.{Noted}
use Rattle.record.specs.declared.Record.{Record}
use Rattle.record.specs.Noted.{listed, with_end, sought_of}
use Rattle.record.specs.Check.{five_of, span_of, check_of}
use Rattle.record.specs.Views.{view_test, View, head_view, seq_view, qual_view, id_view, desc_view, has_desc, Shows}
use Rattle.reader.specs.declared.Reader.{Reader}
use Rattle.reader.specs.declared.Position.{Position}
use Rattle.reader.specs.declared.Refusal.{Refusal}
use Rattle.reader.specs.State.{number_of, open_of, position_of, own}
use Rattle.reader.specs.Feed.{feed_of, fed_window, finish_of}
use Rattle.reader.specs.Next.{next_of}
use Rattle.reader.specs.Seek.{seek_of}

-- a promise of equality with a definition allows one answer
abbrev One : {A : Type 0} → A → Type 0
One {A = A} z = (x y : A) → x ≡ z → y ≡ z → x ≡ y

one : {A : Type 0} (z : A) → One z
one z x y e f = e ∙ sym f

-- ---- lines

pub find_byte_one : (s : List ℕ) (byte : ℕ) → One (position (λ b. b == byte) s)
find_byte_one s byte = one (position (λ b. b == byte) s)

-- the smaller of two numbers, and their difference or 0, as std gives them
pub least_one : (a b : ℕ) → One (min a b)
least_one a b = one (min a b)

pub less_one : (a b : ℕ) → One (a - b)
less_one a b = one (a - b)

pub find_line_one : (s : List ℕ) (from : ℕ) → One (line_from s from)
find_line_one s from = one (line_from s from)

-- a returned part: its bytes and its place
abbrev OnePart : Bor (List ℕ) → (Bor (List ℕ) → Type 0) → Type 0
OnePart w P = (x y : Bor (List ℕ)) → P x → P y → (x.now ≡ y.now) × (x.ref_ptr ≡ y.ref_ptr)

pub trim_cr_one : (s : Bor (List ℕ)) → OnePart s (λ r. (r.now ≡ trim_cr s.now) × (r.ref_ptr ≡ s.ref_ptr))
trim_cr_one s x y e f = (e.0 ∙ sym f.0, e.1 ∙ sym f.1)

pub copy_into_one : (dst src : List ℕ) → One (copied dst src)
copy_into_one dst src = one (copied dst src)

pub move_front_one : (w : List ℕ) (start fill : ℕ) → One (moved_front w start fill)
move_front_one w start fill = one (moved_front w start fill)

-- ---- record

pub count_one : (e : Noted) → One (length (listed e))
count_one e = one (length (listed e))

pub with_one : (e : Noted) (end : ℕ) → One (with_end e end)
with_one e end = one (with_end e end)

pub search_one : (h : List ℕ) (e : Noted) (m : ℕ) → One (sought_of h e m)
search_one h e m = one (sought_of h e m)

pub id_length_one : (h : List ℕ) → One (id_length h)
id_length_one h = one (id_length h)

pub error_id_one : (w : List ℕ) (start seq : ℕ) → One (span_of (error_id w start seq))
error_id_one w start seq = one (span_of (error_id w start seq))

pub validate_one : (w : List ℕ) (r : Record) → One (check_of (validate w (five_of r)))
validate_one w r = one (check_of (validate w (five_of r)))

pub fits_one : (r : Record) (n : ℕ) → One (view_test (five_of r) n)
fits_one r n = one (view_test (five_of r) n)

pub has_desc_one : (w : List ℕ) (r : Record) → One (has_desc w (five_of r))
has_desc_one w r = one (has_desc w (five_of r))

shows_one : (w : Bor (List ℕ)) (v : View) → OnePart w (λ r. Shows w v r)
shows_one w v x y e f = (e.bytes ∙ sym f.bytes, e.place ∙ sym f.place)

pub head_one : (w : Bor (List ℕ)) (r : Record) → OnePart w (λ x. Shows w (head_view w.now (five_of r)) x)
head_one w r = shows_one w (head_view w.now (five_of r))

pub seq_one : (w : Bor (List ℕ)) (r : Record) → OnePart w (λ x. Shows w (seq_view w.now (five_of r)) x)
seq_one w r = shows_one w (seq_view w.now (five_of r))

pub qual_one : (w : Bor (List ℕ)) (r : Record) → OnePart w (λ x. Shows w (qual_view w.now (five_of r)) x)
qual_one w r = shows_one w (qual_view w.now (five_of r))

pub id_bytes_one : (w : Bor (List ℕ)) (r : Record) → OnePart w (λ x. Shows w (id_view w.now (five_of r)) x)
id_bytes_one w r = shows_one w (id_view w.now (five_of r))

pub desc_bytes_one : (w : Bor (List ℕ)) (r : Record) → OnePart w (λ x. Shows w (desc_view w.now (five_of r)) x)
desc_bytes_one w r = shows_one w (desc_view w.now (five_of r))

-- a part that may be absent: it is so in both answers, or both have its bytes and its place
abbrev Same : Option (Bor (List ℕ)) → Option (Bor (List ℕ)) → Type 0
Same None None = Unit {0}
Same (Some x) (Some y) = (x.now ≡ y.now) × (x.ref_ptr ≡ y.ref_ptr)
Same x y = ⊥

-- what `desc` promises of its answer
abbrev Described : Bor (List ℕ) → Record → Option (Bor (List ℕ)) → Type 0
Described w r x = (is_some x ≡ has_desc w.now (five_of r)) × IfSome x (λ v. Shows w (desc_view w.now (five_of r)) v)

pub desc_one : (w : Bor (List ℕ)) (r : Record) → (x y : Option (Bor (List ℕ))) → Described w r x → Described w r y → Same x y
desc_one w r None None e f = tt
desc_one w r (Some x) (Some y) e f = shows_one w (desc_view w.now (five_of r)) x y e.1 f.1
desc_one w r None (Some y) e f = let z : ◌≡◌ {A = ℕ} 0 1 = cc (e.0, f.0) in omega arith
desc_one w r (Some x) None e f = let z : ◌≡◌ {A = ℕ} 0 1 = cc (e.0, f.0) in omega arith

-- ---- reader

-- a refusal's number
pub number_one : (r : Refusal) → One (number_of r)
number_one r = one (number_of r)

pub open_one : (W : ℕ) → One (open_of W)
open_one W = one (open_of W)

pub position_one : (s : Reader) → One (position_of s)
position_one s = one (position_of s)

pub owns_one : (s : Reader) (n : ℕ) → One (own s n)
owns_one s n = one (own s n)

-- feed: its answer, and the window's bytes
pub feed_one : (s : Reader) (w n : ℕ) → One (feed_of s w n)
feed_one s w n = one (feed_of s w n)

pub fed_window_one : (s : Reader) (w chunk : List ℕ) → One (fed_window s w chunk)
fed_window_one s w chunk = one (fed_window s w chunk)

pub finish_one : (s : Reader) (w : ℕ) → One (finish_of s w)
finish_one s w = one (finish_of s w)

pub next_one : (s : Reader) (w : List ℕ) → One (next_of s w)
next_one s w = one (next_of s w)

pub seek_one : (s : Reader) (w : ℕ) (p : Position) → One (seek_of s w p)
seek_one s w p = one (seek_of s w p)
