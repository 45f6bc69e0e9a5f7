-- A state as 14 numbers, and the state that numbers are.
-- Assumes nothing.
use Rattle.std.specs.Prelude.{ℕ, Bool, true, false, ◌&&◌, ◌||◌, List, [], ◌∷◌, ◌++◌, length, get_or, eqb, ltb, Option, Some, None}
use Rattle.record.specs.declared.Noted.{Noted}
use Rattle.record.specs.declared.Noted.TheVariants.{Zero, One, Two, Three, Four}
use Rattle.reader.specs.declared.Reader.{Reader}
use Rattle.reader.specs.State.{state_of}

abbrev pub places : ℕ → ℕ → ℕ → ℕ → ℕ → List ℕ
places k a b c d = k ∷ a ∷ b ∷ c ∷ d ∷ []

-- how many line ends are noted, and where; the places that are not noted are 0
abbrev pub places_of : Noted → List ℕ
places_of Zero = places 0 0 0 0 0
places_of (One a) = places 1 a 0 0 0
places_of (Two a b) = places 2 a b 0 0
places_of (Three a b c) = places 3 a b c 0
places_of (Four a b c d) = places 4 a b c d

abbrev pub flag_of : Bool → ℕ
flag_of true = 1
flag_of false = 0

-- the numbers of a state
unfoldable pub numbers_of : Reader → List ℕ
numbers_of s =
    s.window
    ∷ s.start
    ∷ s.fill
    ∷ places_of s.noted
    ++ s.mark
    ∷ s.line.0
    ∷ s.byte.0
    ∷ flag_of s.ended
    ∷ flag_of s.waiting
    ∷ flag_of s.closed
    ∷ []

-- by the tests: there are none, one, two, three or four notes, and the places that are not noted are 0
abbrev pub notes_by : Bool → Bool → Bool → Bool → Bool → ℕ → ℕ → ℕ → ℕ → Option Noted
notes_by true one two three four a b c d = Some Zero
notes_by false true two three four a b c d = Some (One a)
notes_by false false true three four a b c d = Some (Two a b)
notes_by false false false true four a b c d = Some (Three a b c)
notes_by false false false false true a b c d = Some (Four a b c d)
notes_by false false false false false a b c d = None

unfoldable pub notes_in : ℕ → ℕ → ℕ → ℕ → ℕ → Option Noted
notes_in k a b c d =
    notes_by
    (eqb k 0 && eqb a 0 && eqb b 0 && eqb c 0 && eqb d 0)
    (eqb k 1 && eqb b 0 && eqb c 0 && eqb d 0)
    (eqb k 2 && eqb c 0 && eqb d 0)
    (eqb k 3 && eqb d 0)
    (eqb k 4)
    a
    b
    c
    d

-- by the test: a flag is neither 0 nor 1
abbrev pub state_by : ℕ → ℕ → ℕ → ℕ → ℕ → ℕ → Bool → Bool → Bool → Bool → Option Noted → Option Reader
state_by W start fill mark L b ended waiting closed true e = None
state_by W start fill mark L b ended waiting closed false None = None
state_by W start fill mark L b ended waiting closed false (Some e) = Some (state_of W start fill e mark L b ended waiting closed)

-- the state of 14 numbers, in their order
unfoldable pub state_in : ℕ → ℕ → ℕ → ℕ → ℕ → ℕ → ℕ → ℕ → ℕ → ℕ → ℕ → ℕ → ℕ → ℕ → Option Reader
state_in W start fill k a b c d mark L byte ended waiting closed =
    state_by W start fill mark L byte (eqb ended 1) (eqb waiting 1) (eqb closed 1)
    (ltb 1 ended || ltb 1 waiting || ltb 1 closed)
    (notes_in k a b c d)

abbrev pub number : List ℕ → ℕ → ℕ
number l i = get_or l i 0

abbrev pub state_at : List ℕ → Option Reader
state_at l =
    state_in (number l 0) (number l 1) (number l 2) (number l 3) (number l 4) (number l 5) (number l 6) (number l 7) (number l 8) (number l 9) (number l 10) (number l 11) (number l 12) (number l 13)

-- by the tests: there is no room for 6 values; there are fewer than 14 numbers
abbrev pub unpacked_by : List ℕ → Bool → Bool → Option Reader
unpacked_by l true short = None
unpacked_by l false true = None
unpacked_by l false false = state_at l

-- the state that is lent, beside room for v values
unfoldable pub unpacked_of : List ℕ → ℕ → Option Reader
unpacked_of l v = unpacked_by l (ltb v 6) (ltb (length l) 14)
