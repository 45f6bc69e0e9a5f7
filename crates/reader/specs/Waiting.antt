-- Requests for input: the test that decides, and what the state is after one.
-- Assumes nothing.
use Rattle.std.specs.Prelude.{ℕ, ◌-◌, ◌<◌, ◌≡◌, Bool, true, false, List, take}
use Rattle.record.specs.Noted.{listed}
use Rattle.reader.specs.declared.Reader.{Reader}
use Rattle.reader.specs.Next.{settles, searched_of}

-- the record that is sought is complete, or W bytes are held from its start, or the end is noted
abbrev pub settles_now : Reader → List ℕ → Bool
settles_now s w = settles (take s.fill w) s.window s.start s.ended (listed (searched_of s w).noted)

-- what a state is after a request: it waits, the end is not noted, there is room for a byte, and every held byte is searched
pub record Wants (s : Reader) : Type 0 where
  pub waits : s.waiting ≡ true
  pub goes_on : s.ended ≡ false
  pub room : s.fill - s.start < s.window
  pub all_searched : s.mark ≡ s.fill
