-- Data: the elements of a text, and what quote gives.
use Rattle.std.specs.Prelude.{ℕ, suc, ◌+◌}
use Rattle.datum.specs.Constant.{Constant}

mutual
  pub data Datum : Type 0 where
    constant_d : Constant → Datum
    name_d : (number : ℕ) → Datum
    list_d : Data → Datum

  pub data Data : Type 0 where
    none_d : Data
    more_d : (first : Datum) (rest : Data) → Data

-- how many elements
unfoldable pub count : Data → ℕ
count none_d = 0
count (more_d d ds) = suc (count ds)

-- items: a list of n elements has n pairs and one empty list
unfoldable mutual
  pub datum_items : Datum → ℕ
  datum_items (constant_d a) = 1
  datum_items (name_d n) = 1
  datum_items (list_d ds) = data_items ds

  pub data_items : Data → ℕ
  data_items none_d = 1
  data_items (more_d d ds) = suc (datum_items d + data_items ds)
