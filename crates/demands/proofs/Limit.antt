-- WINDOW LIMIT EXACTLY WHEN, carried to the answers of runs.
-- Assumes nothing.
use Prim.Native.Nat.{ℕ}
use native.Mathlib.Omega.{arith}
use mathlib.Core.Path.{◌≡◌, refl, sym, ap, ◌∙◌, subst}
use mathlib.Core.Bool.{true, false}
use mathlib.Core.Logic.{◌↔◌}
use mathlib.Core.Option.{Option, some}
use mathlib.Core.List.{List, ◌∷◌}
use lib.ListN.{length}
use Rattle.reading.specs.Answer.{found, window_limit, ended, Told, told}
use Rattle.reading.specs.Answer as read
use Rattle.reading.specs.Reading.{Step, onward, unended, closing, step_at, first}
use Rattle.reading.specs.Lists.{is_limit}
use Rattle.reading.specs.Size.{TooLarge}
use Rattle.reading.proofs.Readings.{first_by, first_suc}
use Rattle.reading.proofs.Limits.{limit_exactly, limit_here}
use Rattle.reader.specs.declared.Reader.{Reader}
use Rattle.reader.specs.Next.{onward_by, onward_of, next_of}
use Rattle.reader.specs.Seek.{base}
use Rattle.record.specs.declared.Noted.{Noted}
use Rattle.record.specs.declared.Noted.TheVariants.{Zero, One, Two, Three, Four}
use Rattle.demands.specs.Runs.{heard_of, placed, Bench}
use Rattle.demands.proofs.Standing.{due, due_onward, good_own}
use Rattle.demands.proofs.Nexts.{Gives, next_served}
use Rattle.demands.proofs.Chunks.{Stands}

-- the answer of a step
abbrev answer_in : Step → read.Answer
answer_in (onward r) = found r
answer_in (unended r) = found r
answer_in (closing a) = a

first_answer : (k : ℕ → ℕ → List Told) (n p L : ℕ) (s : Step) (t : Told) (ts : List Told) → first_by k n p L s ≡ t ∷ ts → t.answer ≡ answer_in s
first_answer k n p L (onward r) t ts e = let f : t ≡ told L p (found r) = cc in ap (λ (x : Told). x.answer) f
first_answer k n p L (unended r) t ts e = let f : t ≡ told L p (found r) = cc in ap (λ (x : Told). x.answer) f
first_answer k n p L (closing a) t ts e = let f : t ≡ told L p a = cc in ap (λ (x : Told). x.answer) f

-- what is heard from an open reader is the answer of the step at the record that is sought
pub heard_step : (B : List ℕ) (b : Bench) → Stands B b → b.reader.closed ≡ false → (a : read.Answer)
    → heard_of (base (next_of b.reader b.window).state) (next_of b.reader b.window).answer ≡ some a
    → a ≡ answer_in (step_at B (onward_of b.reader).window (onward_of b.reader).byte.0 (onward_of b.reader).line.0)
heard_step B b g c a e =
    let s = b.reader in
    let r = next_of s b.window in
    let v : due 1 B s ≡ placed r.state a ∷ due 0 B r.state = subst (λ (x : Option read.Answer). Gives 0 B s r.state x) e ((next_served B s b.window b.taken g).gives 0) in
    first_answer (λ q M. first 0 B (onward_of s).window q M) 0 (onward_of s).byte.0 (onward_of s).line.0 (step_at B (onward_of s).window (onward_of s).byte.0 (onward_of s).line.0) (placed r.state a) (due 0 B r.state)
    (sym (first_suc 0 B (onward_of s).window (onward_of s).byte.0 (onward_of s).line.0) ∙ sym (due_onward 1 B s c) ∙ v)

window_is : (s : Reader) (e : Noted) → (onward_by s e).window ≡ s.window
window_is s Zero = refl
window_is s (One a) = refl
window_is s (Two a b) = refl
window_is s (Three a b c) = refl
window_is s (Four a b c d) = refl

-- DEMAND 3. "That limit comes exactly when a record with its line ends, or a tail short of its fourth line end, is too large by 01's rule":
-- what an open reader answers, requests left out, is window limit exactly if what starts at the sought place is too large for the window.
pub limit_comes_exactly : (B : List ℕ) (b : Bench) → Stands B b → b.reader.closed ≡ false → (a : read.Answer)
    → heard_of (base (next_of b.reader b.window).state) (next_of b.reader b.window).answer ≡ some a
    → (is_limit a ≡ true) ↔ TooLarge B (length b.window) (onward_of b.reader).byte.0
limit_comes_exactly B b g c a e = rw wide (there, back)
  where
    wide : length b.window ≡ (onward_of b.reader).window
    wide = (good_own B b.reader b.window b.taken g).opened ∙ sym (window_is b.reader b.reader.noted)

    is : a ≡ answer_in (step_at B (onward_of b.reader).window (onward_of b.reader).byte.0 (onward_of b.reader).line.0)
    is = heard_step B b g c a e

    there : is_limit a ≡ true → TooLarge B (onward_of b.reader).window (onward_of b.reader).byte.0
    there l = go (step_at B (onward_of b.reader).window (onward_of b.reader).byte.0 (onward_of b.reader).line.0) refl (ap is_limit (sym is) ∙ l)
      where
        go : (x : Step) → step_at B (onward_of b.reader).window (onward_of b.reader).byte.0 (onward_of b.reader).line.0 ≡ x → is_limit (answer_in x) ≡ true
            → TooLarge B (onward_of b.reader).window (onward_of b.reader).byte.0
        go (onward r) f m = let z : ◌≡◌ {A = ℕ} 0 1 = cc in absurd (omega arith)
        go (unended r) f m = let z : ◌≡◌ {A = ℕ} 0 1 = cc in absurd (omega arith)
        go (closing d) f m =
            let q = limit_here B (onward_of b.reader).window (onward_of b.reader).byte.0 (onward_of b.reader).line.0 d f m in
            (limit_exactly B (onward_of b.reader).window (onward_of b.reader).byte.0 (onward_of b.reader).line.0).0 (f ∙ ap closing q)

    back : TooLarge B (onward_of b.reader).window (onward_of b.reader).byte.0 → is_limit a ≡ true
    back t = ap is_limit (is ∙ ap answer_in ((limit_exactly B (onward_of b.reader).window (onward_of b.reader).byte.0 (onward_of b.reader).line.0).1 t))
