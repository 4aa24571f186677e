-- The number of each ground.
use Rattle.std.specs.Prelude.{ℕ}
use Rattle.words.specs.declared.ground.Ground.{Ground}
use Rattle.words.specs.declared.ground.Ground.TheVariants as G

abbrev pub number_of : Ground → ℕ
number_of G.ShortTables = 1
number_of G.LongText = 2
number_of G.BadToken = 3
number_of G.NumberOutOfRange = 4
number_of G.Unbalanced = 5
number_of G.TooMany = 6
number_of G.BadLayout = 7
number_of G.TooMuchFuel = 8
number_of G.SmallTables = 9
number_of G.BadOperations = 10
number_of G.Unbound = 11
number_of G.BareForm = 12
number_of G.BadForm = 13
number_of G.DoubleName = 14
number_of G.BadRules = 15
number_of G.NoRule = 16
number_of G.UnequalLists = 17
number_of G.OutOfFuel = 18
number_of G.NoTerm = 19
number_of G.NoRoom = 20
number_of G.OutsideGrammar = 21
number_of G.OpenName = 22
number_of G.WrongKind = 25
number_of G.WrongCount = 26
number_of G.OutOfBudget = 27
