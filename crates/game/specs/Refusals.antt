-- The refusals' numbers, as docs/API.md lists them with what each says.
--
--   number r  == the number of the refusal r
use Rattle.std.specs.Prelude.{ℕ}
use Rattle.game.specs.declared.Refusal.{Refusal}
use Rattle.game.specs.declared.Refusal.TheVariants.{
  CountOutOfRange,
  StatePastCount,
  NoInitialState,
  TooManyRequirements,
  TooManySets,
  BadSet,
  ShortScratch,
  ShortController,
  ShortPanel,
  NoGame,
  LongText,
  ShortText,
  NotAllowed,
  BadEntry,
  OtherTable,
  CommandsOutOfRange,
  BadNextMode,
  NotControllers,
  TooManyRows,
  RowsDiffer,
  OtherRanks,
  OtherLayout,
  TooManyStates,
  NoPosition,
  Unread,
  TooManyNames,
  NotOneRequirement,
  BarOutside,
}

-- SPEC 9.2, 9.3
abbrev pub number : Refusal → ℕ
number CountOutOfRange = 1
number StatePastCount = 2
number NoInitialState = 3
number TooManyRequirements = 5
number TooManySets = 6
number BadSet = 7
number ShortScratch = 8
number ShortController = 9
number ShortPanel = 10
number NoGame = 11
number LongText = 12
number ShortText = 13
number NotAllowed = 14
number BadEntry = 15
number OtherTable = 16
number CommandsOutOfRange = 17
number BadNextMode = 18
number NotControllers = 19
number TooManyRows = 20
number RowsDiffer = 21
number OtherRanks = 22
number OtherLayout = 23
number TooManyStates = 24
number NoPosition = 25
number Unread = 26
number TooManyNames = 27
number NotOneRequirement = 28
number BarOutside = 29
