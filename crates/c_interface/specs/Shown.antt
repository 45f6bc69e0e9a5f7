-- What fq_view answers: a view's offset in the window and its length.
-- Assumes nothing.
use Rattle.std.specs.Prelude.{ℕ, ◌≡◌, Bool, true, false, ◌&&◌, List, length, ltb, eqb}
use Rattle.std.proofs.lemmas.List.Edits.{sets}
use Rattle.reading.specs.Answer.{Five}
use Rattle.record.specs.Views.{View, view_test, head_view, seq_view, qual_view, id_view, desc_view, has_desc}
use Rattle.c_interface.specs.declared.Told.{Told}
use Rattle.c_interface.specs.Told.{briefly}

abbrev pub view_of : View → Told
view_of x = briefly 0 x.from (length x.bytes)

-- a place in the window, or 0 where the view test fails
abbrev pub placed_by : Bool → ℕ → ℕ
placed_by true n = n
placed_by false n = 0

unfoldable pub placed : List ℕ → Five → ℕ → ℕ
placed w r n = placed_by (view_test r (length w)) n

-- by the tests: the view's number is 0, 1, 2, 3; it is 4 and there is a description. Otherwise it is absent
abbrev pub view_by : List ℕ → Five → Bool → Bool → Bool → Bool → Bool → Told
view_by w r true seq qual id desc = view_of (head_view w r)
view_by w r false true qual id desc = view_of (seq_view w r)
view_by w r false false true id desc = view_of (qual_view w r)
view_by w r false false false true desc = view_of (id_view w r)
view_by w r false false false false true = view_of (desc_view w r)
view_by w r false false false false false = briefly 18 0 0

unfoldable pub view_told : ℕ → List ℕ → Five → Told
view_told which w r = view_by w r (eqb which 0) (eqb which 1) (eqb which 2) (eqb which 3) (eqb which 4 && has_desc w r)

-- a code, and the values afterwards
pub record Show : Type 0 where
  pub code : ℕ
  pub values : List ℕ

-- by the test: there is no room for 6 values
abbrev pub call_by : List ℕ → Told → Bool → Show
call_by v t true = record { code = 2; values = v }
call_by v t false = record { code = t.code; values = sets v 0 t.values }

unfoldable pub view_call : List ℕ → Told → Show
view_call v t = call_by v t (ltb (length v) 6)

-- the code r, with these values afterwards
pub record Shown (r : ℕ) (v : List ℕ) (x : Show) : Type 0 where
  pub code : r ≡ x.code
  pub values : v ≡ x.values
