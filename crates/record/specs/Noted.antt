-- The noted line ends, and what the search that goes on where it stopped finds.
-- Assumes nothing.
use Rattle.std.specs.Prelude.{ℕ, ◌+◌, List, [], ◌∷◌, length, drop}
use Rattle.reading.specs.Bytes.{line_ends}
use Rattle.record.specs.declared.Noted.{Noted}
use Rattle.record.specs.declared.Noted.TheVariants.{Zero, One, Two, Three, Four}
use Rattle.record.specs.declared.Sought.{Sought}

-- the noted line ends as a list
abbrev pub listed : Noted → List ℕ
listed Zero = []
listed (One a) = a ∷ []
listed (Two a b) = a ∷ b ∷ []
listed (Three a b c) = a ∷ b ∷ c ∷ []
listed (Four a b c d) = a ∷ b ∷ c ∷ d ∷ []

-- the notes with one line end more; there is no fifth
abbrev pub with_end : Noted → ℕ → Noted
with_end Zero e = One e
with_end (One a) e = Two a e
with_end (Two a b) e = Three a b e
with_end (Three a b c) e = Four a b c e
with_end (Four a b c d) e = Four a b c d

abbrev pub sought : Noted → ℕ → Sought
sought e m = record { noted = e; mark = m }

-- the first four of the line ends are noted, and the search stops after the fourth; where there are fewer, all n held bytes are searched
abbrev pub gathered : ℕ → List ℕ → Sought
gathered n [] = sought Zero n
gathered n (a ∷ []) = sought (One a) n
gathered n (a ∷ b ∷ []) = sought (Two a b) n
gathered n (a ∷ b ∷ c ∷ []) = sought (Three a b c) n
gathered n (a ∷ b ∷ c ∷ d ∷ es) = sought (Four a b c d) (d + 1)

-- the line ends of the held bytes h from the mark m on
abbrev pub after : List ℕ → ℕ → List ℕ
after h m = line_ends m (drop m h)

abbrev pub sought_by : List ℕ → ℕ → Noted → Sought
sought_by h m (Four a b c d) = sought (Four a b c d) m
sought_by h m Zero = gathered (length h) (after h m)
sought_by h m (One a) = gathered (length h) (a ∷ after h m)
sought_by h m (Two a b) = gathered (length h) (a ∷ b ∷ after h m)
sought_by h m (Three a b c) = gathered (length h) (a ∷ b ∷ c ∷ after h m)

-- the search of the held bytes h from the mark m on, where `e` are the notes so far; with four noted there is nothing to search
unfoldable pub sought_of : List ℕ → Noted → ℕ → Sought
sought_of h e m = sought_by h m e
