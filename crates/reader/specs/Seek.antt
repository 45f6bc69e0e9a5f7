-- Seek.
-- Assumes nothing.
use Rattle.std.specs.Prelude.{ℕ, ◌+◌, ◌-◌, Bool, true, false, ◌&&◌, leb, ltb, Ok, Err}
use Rattle.record.specs.declared.Noted.TheVariants.{Zero}
use Rattle.reader.specs.declared.Position.{Position}
use Rattle.reader.specs.declared.Reader.{Reader}
use Rattle.reader.specs.declared.Place.TheVariants.{Inside, FeedFrom}
use Rattle.reader.specs.declared.Refusal.TheVariants.{Foreign, PastLimit}
use Rattle.reader.specs.declared.Outcome.{Outcome}
use Rattle.reader.specs.declared.Place.{Place}
use Rattle.reader.specs.State.{most_bytes, state_of, own}

-- the absolute offset of the window's first byte
abbrev pub base : Reader → ℕ
base s = s.byte.0 - s.start

-- the byte is among the held ones, bytes before the current record included; the offset just past them is not
unfoldable pub is_held : Reader → ℕ → Bool
is_held s q = leb (base s) q && ltb q (base s + s.fill)

-- inside: the window and a noted end are kept. Otherwise the window is emptied, the end unnoted, and the answer is the byte to feed from
abbrev pub moved_by : Reader → Position → Bool → Outcome Place
moved_by s p true =
    record {
      state = state_of s.window (p.byte.0 - base s) s.fill Zero (p.byte.0 - base s) p.line.0 p.byte.0 s.ended false false;
      answer = Ok Inside;
    }
moved_by s p false =
    record {
      state = state_of s.window 0 0 Zero 0 p.line.0 p.byte.0 false true false;
      answer = Ok (FeedFrom p.byte);
    }

-- by the tests: the state is own; line and byte are not above 2^48
abbrev pub seek_by : Reader → Position → Bool → Bool → Outcome Place
seek_by s p false near = record { state = s; answer = Err Foreign }
seek_by s p true false = record { state = s; answer = Err PastLimit }
seek_by s p true true = moved_by s p (is_held s p.byte.0)

-- seek, for a window of w bytes
unfoldable pub seek_of : Reader → ℕ → Position → Outcome Place
seek_of s w p = seek_by s p (own s w) (leb p.line.0 most_bytes && leb p.byte.0 most_bytes)
