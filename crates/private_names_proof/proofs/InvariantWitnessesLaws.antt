-- Tests of what a run has at hand, computed on recipes: the invariants' tests pass, and tests that say more fail.
use Rattle.std.specs.Prelude.{◌≡◌, refl, ◌||◌, [], ◌∷◌, eqb}
use Prim.Native.String.{String}
use Rattle.words.specs.Lists.{any_of}
use Rattle.words.specs.Tables.{begun}
use Rattle.expansion.specs.Run.{accepted, refused_on}
use Rattle.private_names_proof.specs.Invariants.Tests.{are_fresh, have_one_binding, are_apart}
use Rattle.private_names_proof.specs.InvariantWitnesses.{by_number, tried}

-- a private t, bound outside by its number; the items of t in the template are 36, 42 and 44
abbrev or2 : String
or2 = "() (lambda (t) (let-syntax ((or2 (syntax-rules () ((_ a b) ((lambda (t) (if t t b)) a))))) (or2 #f t)))"

-- the template's inner rules have a private t, item 37: their form is never in place
abbrev made : String
made = "() (let-syntax ((m (syntax-rules () ((_) (let-syntax ((k (syntax-rules () ((_) t)))) (lambda (t) (k))))))) (m))"

pub invariants-pass :
    tried are_fresh or2 ∷ tried have_one_binding or2 ∷ tried (are_apart (λ i. any_of (eqb i) (36 ∷ 42 ∷ 44 ∷ []))) or2 ∷ []
    ≡ (accepted, 1) ∷ (accepted, 1) ∷ (accepted, 1) ∷ []
unfolding tried
invariants-pass = refl

pub more-fails : tried by_number or2 ∷ tried (are_apart (eqb 37)) made ∷ [] ≡ (refused_on begun 0, 1) ∷ (refused_on begun 0, 1) ∷ []
unfolding tried by_number
more-fails = refl
