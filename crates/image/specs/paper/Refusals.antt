-- The number of each refusal, after the tables of paper 01, 4 and 8, and paper 02, 0.
-- Assumes nothing.
use Rattle.std.specs.Prelude.{ℕ}
use Rattle.image.specs.declared.refusals.Refusal.{Refusal}
use Rattle.image.specs.declared.refusals.Refusal.TheVariants.{ShortImage, Version, Length, Misfit, Limit, NoAtom, AbducibleHead, EmptyAlternative, Loop, LongList, ShortArea, LargeBudget, NoAbducible, UsedUp, NoRoom, NoHypothesis, MalformedGroup, Undefined, MalformedText, Clash, ShortRoom}

abbrev pub number_of : Refusal → ℕ
number_of ShortImage = 1
number_of Version = 2
number_of Length = 3
number_of Misfit = 4
number_of Limit = 5
number_of NoAtom = 6
number_of AbducibleHead = 7
number_of EmptyAlternative = 8
number_of Loop = 9
number_of LongList = 20
number_of ShortArea = 21
number_of LargeBudget = 22
number_of NoAbducible = 23
number_of UsedUp = 30
number_of NoRoom = 31
number_of NoHypothesis = 40
number_of MalformedGroup = 41
number_of Undefined = 42
number_of MalformedText = 50
number_of Clash = 51
number_of ShortRoom = 52
