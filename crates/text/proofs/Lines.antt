-- Laws of the values of a line, put in front of its end from the last to the first.
-- Assumes nothing.
use mathlib.Core.Path.{◌≡◌, sym, ap, ◌∙◌}
use mathlib.Core.List.{List, [], ◌∷◌, ◌++◌, append-nil}
use Prim.Native.Nat.{ℕ, ◌-◌, ◌≤◌}
use native.Mathlib.Omega.{arith}
use Rattle.std.proofs.lemmas.List.{drop-append-le}
use lib.ListN.{length, drop, set, drop_of_length-le}
use lib.Seq.{append_snoc}
use Rattle.reading.specs.Bytes.{LF}
use Rattle.text.specs.Decimal.{decimal}
use Rattle.text.specs.Line.{TAB, value_bytes}
use Rattle.text.proofs.Decimals.{stored_before}

-- a tab in front of bytes
pub tab_before : (l bs : List ℕ) (i : ℕ) → drop i l ≡ bs → 1 ≤ i → i ≤ length l → drop (i - 1) (set l (i - 1) TAB) ≡ TAB ∷ bs
tab_before l bs i e h k = stored_before l i TAB h k ∙ ap (λ (b : List ℕ). TAB ∷ b) e

-- the bytes bs are those of the values behind the ones that are left, and LF
pub record Behind (left vs bs : List ℕ) : Type 0 where
  pub values : List ℕ
  pub all : left ++ values ≡ vs
  pub bytes : bs ≡ value_bytes values

-- LF at the end of a text stands for no values
pub none_behind : (left vs l : List ℕ) → left ≡ vs → length l ≡ 127 → Behind left vs (drop 126 (set l 126 LF))
unfolding value_bytes
none_behind left vs l e h =
    record {
      values = [];
      all = rw append-nil e;
      bytes = stored_before l 127 LF (omega arith) (omega arith) ∙ ap (λ (b : List ℕ). LF ∷ b) (drop_of_length-le l {i = 127} (omega arith));
    }

-- the last of the values that are left, at the end of the part in front of those behind it
pub value_more : {left vs cs : List ℕ} (rest part : List ℕ) (r v : ℕ) → Behind left vs cs → left ≡ rest ++ v ∷ [] → r ≤ length part → drop r part ≡ TAB ∷ decimal v
    → Behind rest vs (drop r (part ++ cs))
unfolding value_bytes
value_more rest part r v b e h f =
    record { values = v ∷ b.values; all = sym (append_snoc rest v b.values) ∙ rw e at b.all; bytes = rw (drop-append-le r part _ h, f, b.bytes) }

-- with no value left, all stand there
pub values_all : {left vs bs : List ℕ} → Behind left vs bs → length left ≡ 0 → bs ≡ value_bytes vs
values_all {left} b e = b.bytes ∙ ap value_bytes (none left e b.all)
  where
    none : {values vs : List ℕ} (left : List ℕ) → length left ≡ 0 → left ++ values ≡ vs → values ≡ vs
    none [] h k = k
    none (x ∷ left) h k = absurd (omega (arith, h))
