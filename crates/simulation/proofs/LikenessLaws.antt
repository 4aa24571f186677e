-- What two runs ask of their names in order to go side by side: a relation of names, by what is known of those of a tree, under which
-- expansion asks the same of both. A template's private name renamed is one case (`privately`), other numbers for the names another (`numbers`).
use Rattle.std.specs.Prelude.{◌≡◌, List, ◌++◌, map}
use Rattle.std.proofs.Common.{subst}
use Rattle.std.proofs.lemmas.List.{map-append}
use Rattle.words.specs.Each.{Each, each_left, each_right}
use Rattle.recipe.specs.Name.{Name}
use Rattle.recipe.specs.Tree.{Tree}
use Rattle.core_term.specs.Term.{Term, Terms}
use Rattle.expansion.specs.Computation.{looked, Events}
use Rattle.simulation.specs.Shapes.{TreeOf}
use Rattle.simulation.specs.Marks.{Kind}
use Rattle.simulation.specs.Terms.{TermOf, TermsOf}
use Rattle.simulation.specs.Likeness.{Likeness}

module _ (L : Likeness) where
  -- terms of the two runs
  abbrev pub AlikeTerm : Term Name → Term Name → Type 0
  AlikeTerm = TermOf L.Number L.Formal

  abbrev pub AlikeTerms : Terms Name → Terms Name → Type 0
  AlikeTerms = TermsOf L.Number L.Formal

  abbrev pub TreeRel : Kind → Tree → Tree → Type 0
  TreeRel Q = TreeOf (L.Rel Q)

  abbrev pub AllFine : Events → Type 0
  AllFine = Each L.Fine

  -- the same of names looked up
  abbrev pub Looks : List Name → Type 0
  Looks l = AllFine (map looked l)

  pub looks-left : (l k : List Name) → Looks (l ++ k) → Looks l
  looks-left l k f = each_left (map looked l) (map looked k) (subst AllFine (map-append looked l k) f)

  pub looks-right : (l k : List Name) → Looks (l ++ k) → Looks k
  looks-right l k f = each_right (map looked l) (map looked k) (subst AllFine (map-append looked l k) f)
