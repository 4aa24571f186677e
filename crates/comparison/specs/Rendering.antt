-- A rendering of our term: each variable has a name of its own choice, such that no reference is captured, and other names are spelled as ours.
use Rattle.std.specs.Prelude.{◌≡◌, List, [], ◌∷◌, map, ℕ, length, get_or}
use Rattle.words.specs.Each.{Each}
use Rattle.datum.specs.Constant.{Constant}
use Rattle.datum.specs.Datum.{Datum, constant_d, name_d, list_d, Data, none_d, more_d}
use Rattle.core_term.specs.Term.{variable_c, operation_c, datum_c, if_c, lambda_c, application_c, none_c, more_c, Plain, Plains}
use Rattle.comparison.specs.Expression.{Expression, reference_e, datum_e, if_e, lambda_e, application_e, Expressions, none_e, more_e}
use Rattle.comparison.specs.Closed.{inside}
use Rattle.comparison.specs.Binders.{numbers}

-- names by number in the text: those of our variables, of operations by place, and of quoted names
pub record Choice : Type 0 where
  pub called : ℕ → ℕ
  pub operation : ℕ → ℕ
  pub quoted : ℕ → ℕ

module _ (c : Choice) where
  unfoldable mutual
    pub render_datum : Datum → Datum
    render_datum (constant_d a) = constant_d a
    render_datum (name_d n) = name_d (c.quoted n)
    render_datum (list_d ds) = list_d (render_data ds)

    pub render_data : Data → Data
    render_data none_d = none_d
    render_data (more_d d ds) = more_d (render_datum d) (render_data ds)

  unfoldable mutual
    pub render : Plain → Expression
    render (variable_c v) = reference_e (c.called v)
    render (operation_c p) = reference_e (c.operation p)
    render (datum_c d) = datum_e (render_datum d)
    render (if_c x y z) = if_e (render x) (render y) (render z)
    render (lambda_c v fs x) = lambda_e (map c.called (numbers v (length fs))) (render x)
    render (application_c h ts) = application_e (render h) (render_all ts)

    pub render_all : Plains → Expressions
    render_all none_c = none_e
    render_all (more_c t ts) = more_e (render t) (render_all ts)

  -- ---- no reference is captured

  -- variable v's formal is seen past those nearer, none of which has its name
  pub data Seen (v : ℕ) : List ℕ → Type 0 where
    here : {round : List ℕ} → Seen v (v ∷ round)
    past : {w : ℕ} {round : List ℕ} → (c.called v ≡ c.called w → ⊥) → Seen v round → Seen v (w ∷ round)

  -- how each side spells its names, and the operations in the order of their places
  module _ (theirs ours : ℕ → List ℕ) (operations : List (List ℕ)) where
    -- quoted names are spelled as ours
    mutual
      pub data Spelled : Datum → Type 0 where
        constant' : {a : Constant} → Spelled (constant_d a)
        name' : {n : ℕ} → theirs (c.quoted n) ≡ ours n → Spelled (name_d n)
        list' : {ds : Data} → SpelledAll ds → Spelled (list_d ds)

      pub data SpelledAll : Data → Type 0 where
        no_data : SpelledAll none_d
        more_data : {d : Datum} {ds : Data} → Spelled d → SpelledAll ds → SpelledAll (more_d d ds)

    -- `round` are the variables of the lambdas round a term, the innermost first
    mutual
      pub data Uncaptured : List ℕ → Plain → Type 0 where
        variable' : {round : List ℕ} {v : ℕ} → Seen v round → Uncaptured round (variable_c v)
        operation' : {round : List ℕ} {p : ℕ} → Each (λ w. c.operation p ≡ c.called w → ⊥) round → theirs (c.operation p) ≡ get_or operations p []
            → Uncaptured round (operation_c p)
        datum' : {round : List ℕ} {d : Datum} → Spelled d → Uncaptured round (datum_c d)
        if' : {round : List ℕ} {x y z : Plain} → Uncaptured round x → Uncaptured round y → Uncaptured round z → Uncaptured round (if_c x y z)
        lambda' : {round : List ℕ} {v : ℕ} {fs : List ℕ} {x : Plain} → Uncaptured (inside (numbers v (length fs)) round) x
            → Uncaptured round (lambda_c v fs x)
        application' : {round : List ℕ} {h : Plain} {ts : Plains} → Uncaptured round h → UncapturedAll round ts → Uncaptured round (application_c h ts)

      pub data UncapturedAll : List ℕ → Plains → Type 0 where
        none' : {round : List ℕ} → UncapturedAll round none_c
        more' : {round : List ℕ} {t : Plain} {ts : Plains} → Uncaptured round t → UncapturedAll round ts → UncapturedAll round (more_c t ts)
