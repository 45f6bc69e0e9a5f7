-- A state's numbers are that state, and the numbers of a state that is lent are the numbers that were lent:
-- so every state can be handed in, and a call that hands back the state it was handed leaves the numbers as they were.
-- Assumes nothing.
use mathlib.Core.Path.{◌≡◌, refl, ap, ◌∙◌}
use mathlib.Core.Bool.{Bool, true, false, ◌&&◌, ◌||◌}
use mathlib.Core.List.{List, [], ◌∷◌, ◌++◌}
use Prim.Native.Nat.{ℕ, zero, suc, ◌+◌, ◌≤◌, ◌<◌}
use native.Mathlib.Omega.{arith}
use lib.ListN.{length, get_or, take, drop, take-append-drop}
use lib.Seq.{sets, sets-eq, drop-cons}
use lib.Dec.{eqb, ltb}
use borrow.Author.Tests.{le-ltb, eqb-true, ltb-false}
use Rattle.std.specs.Prelude.{Option, Some, None}
use Rattle.record.specs.declared.Noted.{Noted}
use Rattle.record.specs.declared.Noted.TheVariants.{Zero, One, Two, Three, Four}
use Rattle.reader.specs.declared.Reader.{Reader}
use Rattle.reader.specs.State.{state_of}
use Rattle.c_interface.specs.declared.Told.{Told}
use Rattle.c_interface.specs.Packed.{numbers_of, number, places, places_of, flag_of, notes_by, notes_in, state_by, state_in, state_at, unpacked_of}
use Rattle.c_interface.specs.Calls.{called_by, called}
use Rattle.c_interface.proofs.Calling.{unpacked_room}

notes_back : (e : Noted) → notes_in (number (places_of e) 0) (number (places_of e) 1) (number (places_of e) 2) (number (places_of e) 3) (number (places_of e) 4) ≡ Some e
unfolding notes_in
notes_back Zero = refl
notes_back (One a) = refl
notes_back (Two a b) = refl
notes_back (Three a b c) = refl
notes_back (Four a b c d) = refl

flag_back : (t : Bool) → eqb (flag_of t) 1 ≡ t
flag_back true = refl
flag_back false = refl

flag_fits : (t : Bool) → ltb 1 (flag_of t) ≡ false
flag_fits true = refl
flag_fits false = refl

module _ (s : Reader) (rest : List ℕ) where
  numbers : Noted → List ℕ
  numbers e = (s.window ∷ s.start ∷ s.fill ∷ places_of e ++ s.mark ∷ s.line.0 ∷ s.byte.0 ∷ flag_of s.ended ∷ flag_of s.waiting ∷ flag_of s.closed ∷ []) ++ rest

  many : (e : Noted) → 14 ≤ length (numbers e)
  unfolding numbers
  many Zero = omega arith
  many (One a) = omega arith
  many (Two a b) = omega arith
  many (Three a b c) = omega arith
  many (Four a b c d) = omega arith

  in_order : (e : Noted) → state_at (numbers e)
      ≡ state_in s.window s.start s.fill (number (places_of e) 0) (number (places_of e) 1) (number (places_of e) 2) (number (places_of e) 3) (number (places_of e) 4) s.mark s.line.0 s.byte.0
      (flag_of s.ended) (flag_of s.waiting) (flag_of s.closed)
  unfolding numbers
  in_order Zero = refl
  in_order (One a) = refl
  in_order (Two a b) = refl
  in_order (Three a b c) = refl
  in_order (Four a b c d) = refl

-- every state can be handed in
pub packed_back : (s : Reader) (rest : List ℕ) (v : ℕ) → 6 ≤ v → unpacked_of (numbers_of s ++ rest) v ≡ Some s
unfolding unpacked_of numbers_of state_in numbers
packed_back s rest v h =
    rw (le-ltb v 6 h, le-ltb (length (numbers s rest s.noted)) 14 (many s rest s.noted))
    (in_order s rest s.noted
    ∙ rw (flag_fits s.ended, flag_fits s.waiting, flag_fits s.closed, notes_back s.noted, flag_back s.ended, flag_back s.waiting, flag_back s.closed))

both : (a b : Bool) → (a && b) ≡ true → (a ≡ true) × (b ≡ true)
both true b e = (refl, e)
both false b e = let z : ◌≡◌ {A = ℕ} 0 1 = cc in absurd (omega arith)

neither : (a b : Bool) → (a || b) ≡ false → (a ≡ false) × (b ≡ false)
neither true b e = let z : ◌≡◌ {A = ℕ} 0 1 = cc in absurd (omega arith)
neither false b e = (refl, e)

-- the notes that numbers say have just those numbers
notes_lent : (k a b c d : ℕ) (e : Noted) → notes_in k a b c d ≡ Some e → places_of e ≡ places k a b c d
unfolding notes_in
notes_lent k a b c d e f =
    go (eqb k 0 && eqb a 0 && eqb b 0 && eqb c 0 && eqb d 0) refl (eqb k 1 && eqb b 0 && eqb c 0 && eqb d 0) refl (eqb k 2 && eqb c 0 && eqb d 0) refl (eqb k 3 && eqb d 0) refl (eqb k 4) refl f
  where
    go : (t0 : Bool) → (eqb k 0 && eqb a 0 && eqb b 0 && eqb c 0 && eqb d 0) ≡ t0
        → (t1 : Bool) → (eqb k 1 && eqb b 0 && eqb c 0 && eqb d 0) ≡ t1
        → (t2 : Bool) → (eqb k 2 && eqb c 0 && eqb d 0) ≡ t2
        → (t3 : Bool) → (eqb k 3 && eqb d 0) ≡ t3
        → (t4 : Bool) → eqb k 4 ≡ t4
        → notes_by t0 t1 t2 t3 t4 a b c d ≡ Some e → places_of e ≡ places k a b c d
    go true p0 t1 p1 t2 p2 t3 p3 t4 p4 f =
        let u = both _ _ p0 in let x = both _ _ u.0 in let y = both _ _ x.0 in let z = both _ _ y.0 in
        let q : e ≡ Zero = cc in
        rw (q, eqb-true k 0 z.0, eqb-true a 0 z.1, eqb-true b 0 y.1, eqb-true c 0 x.1, eqb-true d 0 u.1)
    go false p0 true p1 t2 p2 t3 p3 t4 p4 f =
        let u = both _ _ p1 in let x = both _ _ u.0 in let y = both _ _ x.0 in
        let q : e ≡ One a = cc in
        rw (q, eqb-true k 1 y.0, eqb-true b 0 y.1, eqb-true c 0 x.1, eqb-true d 0 u.1)
    go false p0 false p1 true p2 t3 p3 t4 p4 f =
        let u = both _ _ p2 in let x = both _ _ u.0 in
        let q : e ≡ Two a b = cc in
        rw (q, eqb-true k 2 x.0, eqb-true c 0 x.1, eqb-true d 0 u.1)
    go false p0 false p1 false p2 true p3 t4 p4 f =
        let u = both _ _ p3 in
        let q : e ≡ Three a b c = cc in
        rw (q, eqb-true k 3 u.0, eqb-true d 0 u.1)
    go false p0 false p1 false p2 false p3 true p4 f =
        let q : e ≡ Four a b c d = cc in
        rw (q, eqb-true k 4 p4)
    go false p0 false p1 false p2 false p3 false p4 f = let z : ◌≡◌ {A = ℕ} 0 1 = cc in absurd (omega arith)

flag_lent : (x : ℕ) → ltb 1 x ≡ false → flag_of (eqb x 1) ≡ x
flag_lent zero e = refl
flag_lent (suc zero) e = refl
flag_lent (suc (suc n)) e = let h : suc (suc n) ≤ 1 = ltb-false _ _ e in absurd (omega arith)

-- the state that 14 numbers are has just those numbers
state_lent : (W start fill k a b c d mark L n ended waiting closed : ℕ) (s : Reader)
    → state_in W start fill k a b c d mark L n ended waiting closed ≡ Some s
    → numbers_of s ≡ W ∷ start ∷ fill ∷ k ∷ a ∷ b ∷ c ∷ d ∷ mark ∷ L ∷ n ∷ ended ∷ waiting ∷ closed ∷ []
unfolding state_in numbers_of
state_lent W start fill k a b c d mark L n ended waiting closed s f =
    go (ltb 1 ended || ltb 1 waiting || ltb 1 closed) refl (notes_in k a b c d) refl f
  where
    go : (t : Bool) → (ltb 1 ended || ltb 1 waiting || ltb 1 closed) ≡ t → (e : Option Noted) → notes_in k a b c d ≡ e
        → state_by W start fill mark L n (eqb ended 1) (eqb waiting 1) (eqb closed 1) t e ≡ Some s
        → numbers_of s ≡ W ∷ start ∷ fill ∷ k ∷ a ∷ b ∷ c ∷ d ∷ mark ∷ L ∷ n ∷ ended ∷ waiting ∷ closed ∷ []
    go true p e q f = let z : ◌≡◌ {A = ℕ} 0 1 = cc in absurd (omega arith)
    go false p None q f = let z : ◌≡◌ {A = ℕ} 0 1 = cc in absurd (omega arith)
    go false p (Some e) q f =
        let u = neither _ _ p in
        let x = neither _ _ u.0 in
        let i : s ≡ state_of W start fill e mark L n (eqb ended 1) (eqb waiting 1) (eqb closed 1) = cc in
        rw (i, notes_lent k a b c d e q, flag_lent ended x.0, flag_lent waiting x.1, flag_lent closed u.1)

-- the n numbers from place i on
fronts : List ℕ → ℕ → ℕ → List ℕ
fronts l i zero = []
fronts l i (suc n) = get_or l i 0 ∷ fronts l (suc i) n

fronts_take : (l : List ℕ) (i n : ℕ) → i + n ≤ length l → fronts l i n ≡ take n (drop i l)
unfolding fronts
fronts_take l i zero h = refl
fronts_take l i (suc n) h = let q : i < length l = omega arith in let r : suc i + n ≤ length l = omega arith in rw (drop-cons l i 0 q) (ap (λ (t : List ℕ). get_or l i 0 ∷ t) (fronts_take l (suc i) n r))

-- the numbers of the state that is lent are those that were lent
pub lent_back : (l : List ℕ) (v : ℕ) (s : Reader) → unpacked_of l v ≡ Some s → sets l 0 (numbers_of s) ≡ l
unfolding unpacked_of fronts
lent_back l v s e =
    let room = unpacked_room l v s e in
    let f : state_at l ≡ Some s = rw (le-ltb v 6 room.1, le-ltb (length l) 14 room.0) at e in
    let q : numbers_of s ≡ fronts l 0 14 = state_lent _ _ _ _ _ _ _ _ _ _ _ _ _ _ s f in
    let h : 0 + 14 ≤ length l = omega arith in
    ap (λ (x : List ℕ). sets l 0 x) q ∙ sets-eq (fronts l 0 14) l 0 h ∙ ap (λ (x : List ℕ). x ++ drop 14 l) (fronts_take l 0 14 h) ∙ take-append-drop 14 l

-- a call that hands back the state it was handed leaves the numbers as they were
pub called_keeps : (st v : List ℕ) (after : Reader → Reader) (tell : Reader → Told)
    → ((s : Reader) → unpacked_of st (length v) ≡ Some s → after s ≡ s) → (called st v after tell).state ≡ st
unfolding called
called_keeps st v after tell same = go (unpacked_of st (length v)) refl
  where
    go : (u : Option Reader) → unpacked_of st (length v) ≡ u → (called_by st v after tell u).state ≡ st
    go None e = refl
    go (Some s) e = rw (same s e) (lent_back st (length v) s e)
