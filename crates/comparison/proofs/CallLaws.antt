-- The claims of Yes for the call, from the recipe's tables, our words and the bytes of the text.
use Rattle.std.specs.Prelude.{◌≡◌, refl, Bool, true, false, List, [], ◌∷◌, map, ℕ, suc, length}
use Rattle.std.proofs.Common.{sym, ◌∙◌, arith}
use Rattle.std.proofs.Math.Path.{ap}
use Rattle.std.proofs.Math.Option.{Option, none, some}
use Rattle.words.specs.Lists.{all_of}
use Rattle.datum.specs.Datum.{none_d, more_d}
use Rattle.datum.specs.NameTable.{has_name, name_at}
use Rattle.reading.specs.Elements.{Answer, got, refused_for}
use Rattle.reading.specs.Read.{Recipe, read_elements, name_bytes}
use Rattle.recipe.specs.Table.{is_layout, tree_of}
use Rattle.core_term.specs.Term.{Plain}
use Rattle.core_term.specs.Check.{all_known}
use Rattle.core_term.proofs.OfCode.CheckLaws.{accepted}
use Rattle.expansion.specs.Run.{operation_numbers, are_operations}
use Rattle.comparison.specs.Expression.{Expression}
use Rattle.comparison.specs.Compare.{Verdict, yes, held, Reply, unread, replied, require, spelled_operations, our_term, with_term, comparison, compare}
use Rattle.comparison.specs.Renamed.{Renamed}
use Rattle.comparison.specs.Rendering.{Choice, render, Uncaptured}
use Rattle.comparison.specs.Written.{written, is_expression}
use Rattle.comparison.proofs.YesLaws.{not_yes, yes-told, rendering-yes, yes-same-binders, renamed-verdict}
use Rattle.comparison.specs.Call.{Called, Ready}

as_many : (f : ℕ → List ℕ) (l : List ℕ) → length (map f l) ≡ length l
as_many f [] = refl
as_many f (x ∷ l) = ap suc (as_many f l)

-- the stage that a reply says changes no verdict
replied-verdict : (a : Answer Recipe) (v : Verdict) → (replied a v).verdict ≡ v
unfolding replied
replied-verdict (got r) v = refl
replied-verdict (refused_for stage g) v = refl

module _ (items names words : List ℕ) where
  abbrev spelled : List (List ℕ)
  spelled = spelled_operations items names

  -- the call is then the answer for the text
  pub call-held : (t : Plain) → Ready items names words t → (text : List ℕ) (n m : ℕ)
      → (compare items names words text n m).verdict ≡ held (name_at names) spelled t (read_elements 1 text n m)
  unfolding compare comparison require with_term
  call-held t r text n m = rw (r.layout, r.operations, r.term, r.named) (replied-verdict (read_elements 1 text n m) _)

  -- yes for every text that is read as a rendering of our term
  pub call-rendering : (t : Plain) → Ready items names words t → (text : List ℕ) (n m : ℕ) (r : Recipe) → read_elements 1 text n m ≡ got r → (c : Choice)
      → is_expression (render c t) ≡ true → Uncaptured c (name_at (name_bytes r)) (name_at names) spelled [] t → r.elements ≡ more_d (written (render c t)) none_d
      → (compare items names words text n m).verdict ≡ yes
  unfolding our_term spelled_operations
  call-rendering t ready text n m r e c g u i =
      let a = accepted _ _ words t ready.term in
      call-held t ready text n m ∙ ap (held (name_at names) spelled t) e
      ∙ rendering-yes (name_at names) spelled t r (has_name names) (ap (λ k. all_known k (has_name names) t) (as_many (name_at names) (operation_numbers (tree_of items))) ∙ a.known') c g u i

  -- one answer for two texts whose elements differ in the choice of bound names
  pub call-renamed : (t : Plain) → Ready items names words t → (here there : List ℕ) (n m k l : ℕ) (r s : Recipe) → read_elements 1 here n m ≡ got r → read_elements 1 there k l ≡ got s
      → (x y : Expression) → is_expression x ≡ true → r.elements ≡ more_d (written x) none_d → is_expression y ≡ true → s.elements ≡ more_d (written y) none_d
      → Renamed (name_at (name_bytes r)) (name_at (name_bytes s)) [] x y → (compare items names words here n m).verdict ≡ (compare items names words there k l).verdict
  call-renamed t ready here there n m k l r s e f x y g i h j p =
      call-held t ready here n m ∙ ap (held (name_at names) spelled t) e ∙ renamed-verdict (name_at names) spelled t r s x y g i h j p
      ∙ sym (call-held t ready there k l ∙ ap (held (name_at names) spelled t) f)

-- ---- what yes of the call says

require-yes : (g : ℕ) (b : Bool) (r : Reply) → (require g b r).verdict ≡ yes → (b ≡ true) × (r.verdict ≡ yes)
unfolding require unread
require-yes g true r h = (refl, h)
require-yes g false r h = not_yes h (λ z. omega arith)

term-yes : (o : Option Plain) (f : Plain → Reply) → (with_term o f).verdict ≡ yes → (t : Plain) × (o ≡ some t) × ((f t).verdict ≡ yes)
unfolding with_term unread
term-yes none f h = not_yes h (λ z. omega arith)
term-yes (some t) f h = (t, refl, h)

read-yes : (ours : ℕ → List ℕ) (operations : List (List ℕ)) (t : Plain) (a : Answer Recipe) → held ours operations t a ≡ yes → (r : Recipe) × (a ≡ got r)
unfolding held
read-yes ours operations t (got r) h = (r, refl)
read-yes ours operations t (refused_for stage g) h = not_yes h (λ z. omega arith)

pub call-told : (items names words text : List ℕ) (n m : ℕ) → (compare items names words text n m).verdict ≡ yes → Called items names words text n m
unfolding compare comparison our_term
call-told items names words text n m h =
    let a = require-yes 7 (is_layout items) _ h in
    let b = require-yes 10 (are_operations (tree_of items)) _ a.1 in
    let c = term-yes (our_term items names words) _ b.1 in
    let d = require-yes 19 (all_of (has_name names) (operation_numbers (tree_of items))) _ c.2 in
    let v : held (name_at names) (spelled_operations items names) c.0 (read_elements 1 text n m) ≡ yes = sym (replied-verdict (read_elements 1 text n m) _) ∙ d.1 in
    let r = read-yes (name_at names) (spelled_operations items names) c.0 (read_elements 1 text n m) v in
    let y : held (name_at names) (spelled_operations items names) c.0 (got r.0) ≡ yes = sym (ap (held (name_at names) (spelled_operations items names) c.0) r.1) ∙ v in
    record {
      term = c.0;
      ready = record { layout = a.0; operations = b.0; term = c.1; named = d.0 };
      reading = r.0;
      is_read = r.1;
      told = yes-told (name_at names) (spelled_operations items names) c.0 r.0 y;
      same-binders = yes-same-binders (name_at names) (spelled_operations items names) c.0 r.0 (accepted _ _ words c.0 c.1).counted y;
    }
