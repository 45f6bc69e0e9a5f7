-- A law of a write through the interface.
-- Assumes nothing.
use mathlib.Core.Path.{◌≡◌, refl}
use mathlib.Core.Bool.{Bool, true, false}
use mathlib.Core.Option.{Option}
use mathlib.Core.List.{List}
use Prim.Native.Nat.{ℕ, ◌≤◌, ◌<◌}
use lib.ListN.{length}
use lib.Seq.{sets}
use lib.Dec.{ltb}
use borrow.Author.Tests.{ltb-true, ltb-false}
use Rattle.std.specs.Prelude.{Result, option_copied}
use Rattle.std.specs.Bool.{then_some}
use Rattle.std.specs.Borrow.{Bor}
use Rattle.writer.specs.Bytes.{given_desc}
use Rattle.writer.specs.declared.Refusal.{Refusal}
use Rattle.writer.specs.Answer.{Writes}
use Rattle.c_interface.specs.Told.{written_told}
use Rattle.c_interface.specs.Writes.{Puts, untouched, write_by, writing}

-- with too little room for the values nothing is written; otherwise the writer's answer is told
pub write_is : (v out v' out' : List ℕ) (r : ℕ) (first : Option Refusal) (at : ℕ) (bs : List ℕ)
    → (length v < 6 → Puts r v' out' (untouched v out))
    → (6 ≤ length v → (w : Result ℕ Refusal) × Writes first out at bs w out' × (r ≡ (written_told w).code) × (v' ≡ sets v 0 (written_told w).values))
    → Puts r v' out' (writing v first out at bs)
unfolding writing
write_is v out v' out' r first at bs short written = go (ltb (length v) 6) refl
  where
    go : (t : Bool) → ltb (length v) 6 ≡ t → Puts r v' out' (write_by v first out at bs t)
    go true e = short (ltb-true _ _ e)
    go false e = let x = written (ltb-false _ _ e) in rw (← x.1.answered) (record { code = x.2; values = x.3; out = x.1.leaves })

-- a description that is lent beside a flag
pub given_is : (t : Bool) (desc : Bor (List ℕ)) → option_copied (then_some t desc) ≡ given_desc t desc.now
given_is true desc = refl
given_is false desc = refl
