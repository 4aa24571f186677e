-- The names of a term's variables, by number, as code finds them: in a table of their own, or in the words.
use Rattle.std.specs.Prelude.{ℕ, List}
use Rattle.datum.specs.NameTable.{name_at}
use Rattle.core_term.specs.Code.Scan.{called_in, IsTerm}
use Rattle.writer.specs.declared.names.Pen.{Pen}
use Rattle.writer.specs.declared.called.Called.{Called}
use Rattle.writer.specs.declared.called.Called.TheVariants.{Table, Words}

-- a table of them, or words that tell them
unfoldable pub called_by : Called → List ℕ
called_by (Table table) = table.now
called_by (Words words) = called_in words.now

abbrev pub Tells : Called → Type 0
Tells (Table table) = Unit {0}
Tells (Words words) = IsTerm words.now

-- the name table, and the names of the variables
pub record Said : Type 0 where
  pub table : List ℕ
  pub called : List ℕ

abbrev pub said : List ℕ → List ℕ → Said
said table called = record { table = table; called = called }

abbrev pub said_by : List ℕ → Called → Said
said_by table called = said table (called_by called)

abbrev pub said_of : Pen → Said
said_of pen = said_by pen.names.now pen.called

abbrev pub spell_of : Said → ℕ → List ℕ
spell_of s = name_at s.table
