-- Yes is exactly 'a rendering of our term', tried on each known answer of request L4; and two renderings by hand.
use Rattle.std.specs.Prelude.{◌≡◌, refl, List, [], ◌∷◌, ◌++◌, map, suc, ◌+◌}
use Rattle.std.proofs.Common.{subst, arith}
use Rattle.words.specs.Each.{Each, none_of, also, each_weaken}
use Rattle.words.specs.Limits.{item_words_least, name_bytes_least, filing_fuel, filing_work, filing_core}
use Rattle.words.specs.Text.{bytes}
use Rattle.datum.specs.Constant.{boolean}
use Rattle.datum.specs.Datum.{constant_d, name_d, list_d, none_d, more_d}
use Rattle.reading.specs.Numbering.{base_names}
use Rattle.core_term.specs.Term.{variable_c, operation_c, datum_c, if_c, lambda_c, application_c, none_c, more_c, Plain}
use Rattle.expansion.specs.Run.{core_of}
use Rattle.expansion.specs.Computed.{computed}
use Rattle.comparison.specs.Closed.{inside}
use Rattle.comparison.specs.Compare.{yes}
use Rattle.comparison.specs.Binders.{numbers}
use Rattle.comparison.specs.Rendering.{Choice, render, render_datum, here, past, constant', name', list', no_data, more_data, variable', operation', datum', if', lambda', application', none', more'}
use Rattle.comparison.specs.Written.{quotation, name_data, written, is_expression}
use Rattle.comparison.specs.Rows.{called, compared, items_of, names_of, Row, answered, or2, lists, rows, rows-hold}
use Rattle.comparison.proofs.CallExactlyLaws.{call-exactly}
use Rattle.comparison.specs.ExactlyRows.{IsRendering}

-- ---- the known answers

each_same : {A B : Type 0} (f g : A → B) (xs : List A) → map f xs ≡ map g xs → Each (λ x. f x ≡ g x) xs
each_same f g [] e = none_of
each_same f g (x ∷ xs) e = let p : f x ≡ g x = cc in let q : map f xs ≡ map g xs = cc in also p (each_same f g xs q)

row-exactly : (r : Row) → answered r.recipe r.text ≡ r.answer
    → (r.answer ≡ yes → IsRendering r.recipe r.text) × (IsRendering r.recipe r.text → r.answer ≡ yes)
unfolding answered compared called
row-exactly r e =
    let items = items_of r.recipe in
    subst (λ v. (v ≡ yes → IsRendering r.recipe r.text) × (IsRendering r.recipe r.text → v ≡ yes)) e
    (call-exactly items (names_of r.recipe) (core_of (computed items filing_fuel filing_work filing_core)) (bytes r.text) item_words_least name_bytes_least)

pub rows-exactly : Each (λ r. (r.answer ≡ yes → IsRendering r.recipe r.text) × (IsRendering r.recipe r.text → r.answer ≡ yes)) rows
rows-exactly = each_weaken row-exactly (each_same (λ r. answered r.recipe r.text) (λ r. r.answer) rows rows-hold)

-- ---- two renderings by hand

-- x is number 8 of the text, list 9 and t 10; in the recipe list is 8 and t 9
pub lists-rendered : IsRendering lists "(lambda (x) (list x (quote (t list))))"
unfolding lists items_of names_of called computed bytes base_names render render_datum written quotation name_data is_expression numbers inside
lists-rendered =
    let t : Plain = lambda_c 0 (9 ∷ []) (application_c (operation_c 0) (more_c (variable_c 0) (more_c (datum_c (list_d (more_d (name_d 9) (more_d (name_d 8) none_d)))) none_c))) in
    let c : Choice = record { called = λ v. v + 8; operation = λ p. p + 9; quoted = λ n. suc n } in
    let apart : c.operation 0 ≡ c.called 0 → ⊥ = λ e. omega arith in
    record {
      term = t;
      ready = record { layout = refl; operations = refl; term = refl; named = refl };
      reading = record { elements = more_d (written (render c t)) none_d; names = base_names ++ (bytes "x" ∷ bytes "list" ∷ bytes "t" ∷ []) };
      is_read = refl;
      choice = c;
      in-grammar = refl;
      uncaptured = lambda' (application' (operation' (also apart none_of) refl) (more' (variable' here) (more' (datum' (list' (more_data (name' refl) (more_data (name' refl) no_data)))) none')));
      is-element = refl;
    }

-- the inner lambda's variable is called u, which captures no t
pub or2-rendered : IsRendering or2 "(lambda (t) ((lambda (u) (if u u t)) #f))"
unfolding or2 items_of names_of called computed bytes boolean base_names render render_datum written quotation name_data is_expression numbers inside
or2-rendered =
    let t : Plain = lambda_c 0 (11 ∷ []) (application_c (lambda_c 1 (11 ∷ []) (if_c (variable_c 1) (variable_c 1) (variable_c 0))) (more_c (datum_c (constant_d (boolean 0))) none_c)) in
    let c : Choice = record { called = λ v. v + 8; operation = λ p. 0; quoted = λ n. 0 } in
    let apart : c.called 0 ≡ c.called 1 → ⊥ = λ e. omega arith in
    record {
      term = t;
      ready = record { layout = refl; operations = refl; term = refl; named = refl };
      reading = record { elements = more_d (written (render c t)) none_d; names = base_names ++ (bytes "t" ∷ bytes "u" ∷ []) };
      is_read = refl;
      choice = c;
      in-grammar = refl;
      uncaptured = lambda' (application' (lambda' (if' (variable' here) (variable' here) (variable' (past apart here)))) (more' (datum' constant') none'));
      is-element = refl;
    }
