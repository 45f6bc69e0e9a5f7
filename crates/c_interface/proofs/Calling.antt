-- Laws of a call through the interface, one for each thing that the lent numbers can be.
-- Assumes nothing.
use mathlib.Core.Path.{◌≡◌, refl, sym, ap, ◌∙◌}
use mathlib.Core.Bool.{Bool, true, false}
use mathlib.Core.List.{List, ◌∷◌, [], ◌++◌}
use Prim.Native.Nat.{ℕ, ◌+◌, ◌≤◌, ◌<◌}
use native.Mathlib.Omega.{arith}
use native.Mathlib.Nat.{zero-add}
use lib.ListN.{length, get_or, take, drop}
use lib.Seq.{sets, sets-eq, length-take-le}
use lib.Dec.{ltb}
use borrow.Author.Tests.{ltb-false, lt-ltb, le-ltb}
use Rattle.std.specs.Prelude.{Option, Some, None, Result, Ok, Err, IfSome, IfNone}
use Rattle.record.specs.declared.Noted.{Noted}
use Rattle.record.specs.declared.Noted.TheVariants.{Zero, One, Two, Three, Four}
use Rattle.reader.specs.declared.Outcome.{Outcome}
use Rattle.reader.specs.declared.Reader.{Reader}
use Rattle.reader.specs.declared.Refusal.{Refusal}
use Rattle.reader.specs.State.{number_of, open_of}
use Rattle.c_interface.specs.declared.Told.{Told}
use Rattle.c_interface.specs.Packed.{places_of, flag_of, numbers_of, unpacked_by, unpacked_of}
use Rattle.c_interface.specs.Told.{briefly, told_by, told_of, Tells}
use Rattle.c_interface.specs.Calls.{Leaves, left_of, foreign_of, called_by, called, memory_by, memory, position_call, Begins, open_call}

-- n numbers copied over the front
pub copied_front : (vs l xs : List ℕ) (n : ℕ) → n ≤ length l → length xs ≡ length (take n l) → xs ≡ vs → xs ++ drop n l ≡ sets l 0 vs
copied_front vs l xs n h e p =
    let m : length vs ≡ n = sym (ap length p) ∙ e ∙ length-take-le n l h in
    let k : 0 + length vs ≤ length l = omega arith in
    rw (sets-eq vs l 0 k, zero-add, m, p)

-- a state's numbers, by those of its notes
pub numbers_by : (s : Reader) (p : List ℕ) → p ≡ places_of s.noted
    → s.window ∷ s.start ∷ s.fill ∷ get_or p 0 0 ∷ get_or p 1 0 ∷ get_or p 2 0 ∷ get_or p 3 0 ∷ get_or p 4 0 ∷ s.mark ∷ s.line.0 ∷ s.byte.0 ∷ flag_of s.ended ∷ flag_of s.waiting ∷ flag_of s.closed ∷ [] ≡ numbers_of s
unfolding numbers_of
numbers_by s p e = rw e (go s.noted)
  where
    go : (e : Noted) → s.window ∷ s.start ∷ s.fill ∷ get_or (places_of e) 0 0 ∷ get_or (places_of e) 1 0 ∷ get_or (places_of e) 2 0 ∷ get_or (places_of e) 3 0 ∷ get_or (places_of e) 4 0 ∷ s.mark ∷ s.line.0 ∷ s.byte.0 ∷ flag_of s.ended ∷ flag_of s.waiting ∷ flag_of s.closed ∷ []
        ≡ s.window ∷ s.start ∷ s.fill ∷ places_of e ++ s.mark ∷ s.line.0 ∷ s.byte.0 ∷ flag_of s.ended ∷ flag_of s.waiting ∷ flag_of s.closed ∷ []
    go Zero = refl
    go (One a) = refl
    go (Two a b) = refl
    go (Three a b c) = refl
    go (Four a b c d) = refl

-- numbers that are a state: there are 14 of them, and room for 6 values
pub unpacked_room : (l : List ℕ) (v : ℕ) (s : Reader) → unpacked_of l v ≡ Some s → (14 ≤ length l) × (6 ≤ v)
unfolding unpacked_of
unpacked_room l v s e = go (ltb v 6) refl (ltb (length l) 14) refl e
  where
    go : (a : Bool) → ltb v 6 ≡ a → (b : Bool) → ltb (length l) 14 ≡ b → unpacked_by l a b ≡ Some s → (14 ≤ length l) × (6 ≤ v)
    go true p b q f = let z : ◌≡◌ {A = ℕ} 0 1 = cc in (omega arith, omega arith)
    go false p true q f = let z : ◌≡◌ {A = ℕ} 0 1 = cc in (omega arith, omega arith)
    go false p false q f = (ltb-false _ _ q, ltb-false _ _ p)

pub some_then : {T : Type 0} {P Q : T → Type 0} (u : Option T) → IfSome u P → ((x : T) → P x → Q x) → IfSome u Q
some_then None p f = p
some_then (Some x) p f = f x p

-- what is told of an answer, where what is told of its parts is known
pub tells_is : {A R : Type 0} (tell : A → Told) (number : R → ℕ) (a : Result A R) (t : Told) → Tells (λ x u. u ≡ tell x) (λ r n. n ≡ number r) a t → t ≡ told_by tell number a
tells_is tell number (Ok a) t e = e
tells_is tell number (Err r) t (n, p, q) = rw (q, p)

module _ (st v : List ℕ) (st' v' : List ℕ) (r : ℕ) (P : Reader → Type 0) where
  -- a call by what is known of it at a state that is lent, and at numbers that are none
  pub called_is : {A : Type 0} (after : Reader → Reader) (tell : A → Told) (answer : Reader → Result A Refusal)
      → IfSome (unpacked_of st (length v)) P → IfNone (unpacked_of st (length v)) (Leaves r st' v' (foreign_of st v))
      → ((s : Reader) → P s → (x : Outcome A) × (t : Told) × (x.state ≡ after s) × (x.answer ≡ answer s)
      × Tells (λ a u. u ≡ tell a) (λ e n. n ≡ number_of e) x.answer t × Leaves r st' v' (left_of st v x.state t))
      → Leaves r st' v' (called st v after (λ s. told_of tell (answer s)))
  unfolding called
  called_is after tell answer some none known = go (unpacked_of st (length v)) some none
    where
      go : (u : Option Reader) → IfSome u P → IfNone u (Leaves r st' v' (foreign_of st v)) → Leaves r st' v' (called_by st v after (λ s. told_of tell (answer s)) u)
      go None some none = none
      go (Some s) some none =
          let k = known s some in
          let e = tells_is tell number_of k.0.answer k.1 k.4 in
          rw (← k.2, ← k.3, ← e) k.5

module _ (st v m m' : List ℕ) (P : Reader → Type 0) where
  -- lent memory in the same way
  pub memory_is : (after : Reader → List ℕ) → IfSome (unpacked_of st (length v)) P → IfNone (unpacked_of st (length v)) (m' ≡ m)
      → ((s : Reader) → P s → m' ≡ after s) → m' ≡ memory st v after m
  unfolding memory
  memory_is after some none known = go (unpacked_of st (length v)) some none
    where
      go : (u : Option Reader) → IfSome u P → IfNone u (m' ≡ m) → m' ≡ memory_by after m u
      go None some none = none
      go (Some s) some none = known s some

module _ (st v : List ℕ) where
  pub position_some : (v' : List ℕ) (s : Reader) (t : Told)
      → unpacked_of st (length v) ≡ Some s → t ≡ briefly 0 s.line.0 s.byte.0 → v' ≡ sets v 0 t.values → Leaves 0 st v' (position_call st v)
  unfolding position_call
  position_some v' s t e p h = rw e (record { code = refl; state = refl; values = rw p at h })

  pub position_none : unpacked_of st (length v) ≡ None → Leaves 2 st v (position_call st v)
  unfolding position_call
  position_none e = rw e (record { code = refl; state = refl; values = refl })

module _ (st : List ℕ) (W : ℕ) where
  pub open_short : length st < 14 → Begins 2 st (open_call st W)
  unfolding open_call
  open_short h = rw (lt-ltb _ _ h) (record { code = refl; state = refl })

  pub open_fresh : (st' : List ℕ) (s : Reader) → 14 ≤ length st → open_of W ≡ Ok s → st' ≡ sets st 0 (numbers_of s) → Begins 0 st' (open_call st W)
  unfolding open_call
  open_fresh st' s h e p = rw (le-ltb _ _ h, e) (record { code = refl; state = p })

  pub open_refused : (e : Refusal) (k : ℕ) → 14 ≤ length st → open_of W ≡ Err e → k ≡ number_of e → Begins k st (open_call st W)
  unfolding open_call
  open_refused e k h p q = rw (le-ltb _ _ h, p) (record { code = q; state = refl })
