-- The views of a record, asked with any five numbers and any window: document 01's view test first; where it fails, the empty part at offset 0.
-- Assumes nothing.
use Rattle.std.specs.Prelude.{ℕ, ◌+◌, ◌≡◌, Bool, true, false, ◌&&◌, List, [], length, leb}
use Rattle.std.proofs.Math.Option.{Option, none, some}
use Rattle.std.specs.Borrow.{Bor}
use Rattle.reading.specs.Bytes.{id_length}
use Rattle.reading.specs.Answer.{Five}
use Rattle.reading.specs.Reading.{head_of, seq_of, qual_of, id_in, desc_in}

-- start + 2 <= seq, seq + 1 <= sep, sep + 2 <= qual, qual <= end <= window length
unfoldable pub view_test : Five → ℕ → Bool
view_test r n = leb (r.start + 2) r.seq && leb (r.seq + 1) r.sep && leb (r.sep + 2) r.qual && leb r.qual r.end && leb r.end n

-- bytes, and the offset in the window at which they stand
pub record View : Type 0 where
  pub from : ℕ
  pub bytes : List ℕ

abbrev pub view : ℕ → List ℕ → View
view a s = record { from = a; bytes = s }

-- the empty part at offset 0
abbrev pub nowhere : View
nowhere = view 0 []

abbrev pub view_by : Bool → View → View
view_by true v = v
view_by false v = nowhere

unfoldable pub head_view : List ℕ → Five → View
head_view w r = view_by (view_test r (length w)) (view (r.start + 1) (head_of w r.start r.seq))

unfoldable pub seq_view : List ℕ → Five → View
seq_view w r = view_by (view_test r (length w)) (view r.seq (seq_of w r))

unfoldable pub qual_view : List ℕ → Five → View
qual_view w r = view_by (view_test r (length w)) (view r.qual (qual_of w r))

-- the id is the front of the head
unfoldable pub id_view : List ℕ → Five → View
id_view w r = view (head_view w r).from (id_in (head_view w r).bytes)

abbrev pub desc_by : ℕ → Option (List ℕ) → View
desc_by a none = nowhere
desc_by a (some d) = view a d

-- the description stands behind the id and the byte that ends it
unfoldable pub desc_view : List ℕ → Five → View
desc_view w r = desc_by ((head_view w r).from + (id_length (head_view w r).bytes + 1)) (desc_in (head_view w r).bytes)

abbrev pub present : Option (List ℕ) → Bool
present none = false
present (some d) = true

-- a description is there, though it may be empty
unfoldable pub has_desc : List ℕ → Five → Bool
has_desc w r = present (desc_in (head_view w r).bytes)

-- the part r of the window w shows the view: its bytes, at its offset
pub record Shows (w : Bor (List ℕ)) (v : View) (r : Bor (List ℕ)) : Type 0 where
  pub bytes : r.now ≡ v.bytes
  pub place : r.ref_ptr ≡ (w.ref_ptr.0, v.from + w.ref_ptr.1)
