-- Sound templates: what parsing makes of rules. Each variable is one of the pattern's, under at most two ellipses of it and no
-- fewer of the template; a constant's kind is a constant's.
use Rattle.std.specs.Prelude.{◌≡◌, ℕ, suc, ◌<◌, ◌≤◌, true, ◌≢◌}
use Rattle.words.specs.Limits.{pattern_variables_most, depth_most}
use Rattle.datum.specs.Constant.{Constant}
use Rattle.recipe.specs.Name.{Name}
use Rattle.expansion.specs.Rules.{Pattern, Template, variable_t, insert_t, constant_t, empty_t, pair_t, ellipsis_t, Rule}
use Rattle.expansion.specs.Match.{holds}

-- a template under n ellipses
pub data Sound (p : Pattern) : ℕ → Template → Type 0 where
  variable : {n k d : ℕ} → k < pattern_variables_most → holds k p ≡ true → d ≤ depth_most → d ≤ n → Sound p n (variable_t k d)
  insert : {n : ℕ} {x : Name} → Sound p n (insert_t x)
  constant : {n : ℕ} {a : Constant} → (a.kind ≢ 0) → (a.kind ≢ 3) → (a.kind ≢ 4) → Sound p n (constant_t a)
  empty : {n : ℕ} → Sound p n empty_t
  pairs : {n : ℕ} {a b : Template} → Sound p n a → Sound p n b → Sound p n (pair_t a b)
  ellipsis : {n : ℕ} {a b : Template} → Sound p (suc n) a → Sound p n b → Sound p n (ellipsis_t a b)

abbrev pub SoundRule : Rule → Type 0
SoundRule r = Sound r.pattern 0 r.template

-- a template whose constants are constants and whose variables are within the limits, which is all that building and comparing ask
pub data Plain : Template → Type 0 where
  variable : {k d : ℕ} → k < pattern_variables_most → d ≤ depth_most → Plain (variable_t k d)
  insert : {x : Name} → Plain (insert_t x)
  constant : {a : Constant} → (a.kind ≢ 0) → (a.kind ≢ 3) → (a.kind ≢ 4) → Plain (constant_t a)
  empty : Plain empty_t
  pairs : {a b : Template} → Plain a → Plain b → Plain (pair_t a b)
  ellipsis : {a b : Template} → Plain a → Plain b → Plain (ellipsis_t a b)

pub sound-plain : {p : Pattern} {n : ℕ} {t : Template} → Sound p n t → Plain t
sound-plain (Sound.variable a b c d) = Plain.variable a c
sound-plain Sound.insert = Plain.insert
sound-plain (Sound.constant a b c) = Plain.constant a b c
sound-plain Sound.empty = Plain.empty
sound-plain (Sound.pairs a b) = Plain.pairs (sound-plain a) (sound-plain b)
sound-plain (Sound.ellipsis a b) = Plain.ellipsis (sound-plain a) (sound-plain b)

pub plain-pair : (a b : Template) → Plain (pair_t a b) → Plain a × Plain b
plain-pair a b (pairs x y) = (x, y)

pub plain-ellipsis : (a b : Template) → Plain (ellipsis_t a b) → Plain a × Plain b
plain-ellipsis a b (ellipsis x y) = (x, y)
