-- Reading with one element wanted accepts exactly the texts of one element, and gives its numbering.
use Rattle.std.specs.Prelude.{◌≡◌, refl, List, ℕ, ◌≤◌}
use Rattle.std.proofs.Common.{ap, subst, ◌∙◌, arith}
use Rattle.words.specs.Limits.{item_words_least, name_bytes_least}
use Rattle.reading.specs.Elements.{got}
use Rattle.reading.specs.Read.{Recipe, read_elements}
use Rattle.reading.specs.RecipeText.{Element, Elements, none_e, more_e, HasElements, said_by}
use Rattle.reading.specs.Accepts.{many}
use Rattle.reading.proofs.AcceptsLaws.{accepts-elements, accepted-elements}
use Rattle.reading.specs.CoreText.{one, CoreText, core_element}
use Rattle.reading.specs.CoreAccepts.{AcceptedOne}

pub accepts-one : (text : List ℕ) (items names : ℕ) (x : Element) → item_words_least ≤ items → name_bytes_least ≤ names → CoreText text x
    → read_elements 1 text items names ≡ got (core_element x)
unfolding core_element one many
accepts-one text items names x i n t = accepts-elements text items names (one x) i n t

is_one : (xs : Elements) → many xs ≡ 1 → (x : Element) × (xs ≡ one x)
unfolding many one
is_one none_e h = absurd (omega arith)
is_one (more_e x none_e) h = (x, refl)
is_one (more_e x (more_e y ys)) h = absurd (omega arith)

pub accepted-one : (text : List ℕ) (items names : ℕ) (r : Recipe) → read_elements 1 text items names ≡ got r → AcceptedOne text items names r
unfolding core_element
accepted-one text items names r h =
    let a = accepted-elements 1 text items names r h in
    let t = is_one a.elements a.wanted in
    record {
      enough_items = a.enough_items;
      enough_names = a.enough_names;
      element = t.0;
      is_core = subst (HasElements text) t.1 a.has;
      same = a.same ∙ ap said_by t.1;
    }
