-- One number after another.
use Rattle.std.proofs.Common.{rules, tests, ℕ, Bool, ◌∙◌, sym, subst}
use Rattle.std.proofs.lemmas.Iterator.{YieldsList-from_slice}
use Rattle.std.proofs.lemmas.Iterator.Adapters.{serves_from_places}
use Rattle.std.proofs.lemmas.Iterator.Search.{any_from_yields_List}
use Rattle.std.proofs.lemmas.Grind.{get_or_default_zero}
use Rattle.words.specs.Lists.{equal}
use Rattle.datum.specs.NameTable.{name_at}
use Rattle.supplier.specs.Names.{Slot}
use Rattle.supplier.specs.NamesLaws.{list_any-any_of}
use Rattle.supplier.proofs.names.any_name.Goals as goal

pub any-requires-clause-callable : goal.any-requires-clause-callable
any-requires-clause-callable c =
    serves_from_places (YieldsList-from_slice c.args.numbers.now cc) (λ x q k. search rules)
    (λ x k l e.
    let slot : Slot c.args.ours.now x.now = subst (Slot c.args.ours.now) (sym (e ∙ get_or_default_zero c.args.numbers.now k x.now l)) (c.requires.1 k l) in
    search rules)

pub returns : goal.returns
returns c =
    let so : ℕ → Bool = λ m. equal (name_at c.args.theirs.now c.args.n) (name_at c.args.ours.now m) in
    any_from_yields_List so _ _ c.any.result c.any.ensures.ran (YieldsList-from_slice c.args.numbers.now cc) (λ x b q k. search (rules, tests))
    ∙ list_any-any_of (equal (name_at c.args.theirs.now c.args.n)) (name_at c.args.ours.now) c.args.numbers.now
