-- What it is that the views of a record show, through a window, the fields of the reading's record.
-- Assumes nothing.
use Rattle.std.specs.Prelude.{ℕ, ◌≡◌, List, []}
use Rattle.std.proofs.Math.Option.{Option, none, some}
use Rattle.reading.specs.Answer.{Five}
use Rattle.reading.specs.Reading.{head_of, seq_of, qual_of, id_in, desc_in}
use Rattle.record.specs.Views.{head_view, seq_view, qual_view, id_view, desc_view, present, has_desc}

-- a description's bytes, none if it is absent
abbrev pub text_of : Option (List ℕ) → List ℕ
text_of none = []
text_of (some d) = d

-- what the views of the record r show through the window w is what the record at the absolute offsets x has in B
pub record Shown (B w : List ℕ) (r x : Five) : Type 0 where
  pub head : (head_view w r).bytes ≡ head_of B x.start x.seq
  pub seq : (seq_view w r).bytes ≡ seq_of B x
  pub qual : (qual_view w r).bytes ≡ qual_of B x
  pub id : (id_view w r).bytes ≡ id_in (head_of B x.start x.seq)
  pub described : has_desc w r ≡ present (desc_in (head_of B x.start x.seq))
  pub desc : (desc_view w r).bytes ≡ text_of (desc_in (head_of B x.start x.seq))
