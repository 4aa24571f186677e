-- The items of a text that was read: the words of a datum, or of a list, from item i on.
use Rattle.std.specs.Prelude.{◌≡◌, true, List, ◌++◌, ℕ, suc, ◌+◌, ◌*◌, drop}
use Rattle.datum.specs.Datum.{Datum, Data, more_d, datum_items}
use Rattle.recipe.specs.TreeFrom.{head_at, tail_at}
use Rattle.reading.specs.Numbering.{datum_words, data_words}
use Rattle.reading_layout.specs.Items.{fits, fit_all}

pub record DatumAt (ws : List ℕ) (i : ℕ) (d : Datum) : Type 0 where
  pub back : List ℕ
  pub words : drop (3 * i) ws ≡ datum_words i d ++ back
  pub fine : fits d ≡ true

pub record DataAt (ws : List ℕ) (i : ℕ) (ds : Data) : Type 0 where
  pub back : List ℕ
  pub words : drop (3 * i) ws ≡ data_words i ds ++ back
  pub fine : fit_all ds ≡ true

-- some datum, or list, is there
abbrev pub Held : List ℕ → ℕ → Type 0
Held ws i = (d : Datum) × DatumAt ws i d

abbrev pub HeldAll : List ℕ → ℕ → Type 0
HeldAll ws i = (ds : Data) × DataAt ws i ds

-- a pair's parts
pub record PairAt (ws : List ℕ) (i : ℕ) (ds : Data) : Type 0 where
  pub first : Datum
  pub rest : Data
  pub is : ds ≡ more_d first rest
  pub head : DatumAt ws (head_at ws i) first
  pub tail : DataAt ws (tail_at ws i) rest
  pub head_is : head_at ws i ≡ suc i
  pub tail_is : tail_at ws i ≡ suc i + datum_items first
