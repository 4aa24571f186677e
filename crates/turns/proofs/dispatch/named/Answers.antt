-- `dispatch::named`, by what the head finds.
use borrow.Author.Rules.{rules}
use mathlib.Core.Path.{ap, sym, ◌∙◌}
use Rattle.words.specs.Limits.{macros_most}
use Rattle.arena.specs.Arena.{name_at}
use Rattle.resolution.specs.Names.{means_of, lookup_in}
use Rattle.turns.specs.LeafLaws.{lookup-in, found-by, nothing-by}
use Rattle.turns.specs.ReadyLaws.{ready-use}
use Rattle.turns.specs.DispatchLaws.{application-room, form-room, nothing-turned, variable-turned, operation-turned, macro-turned, form-heads}
use Rattle.turns.proofs.dispatch.named.Goals as goal

pub returns-in_default : goal.returns-in_default
returns-in_default c = let a = c.args in
    let x = name_at a.work.now a.list.head a.list.wrap in
    λ operations lent. nothing-turned macros_most operations a.work.now a.core.now a.macros.now a.fuel a.list.node a.list.tail a.list.wrap a.reached x c.requires.2 c.requires.0 c.requires.1 _
    (nothing-by (lookup_in a.operations.now x) _ c.lookup.ensures c.in_default.is ∙ lookup-in operations a.operations.now x lent) c.refused.ensures

pub macro_use-requires : goal.macro_use-requires
macro_use-requires c = let a = c.args in
    ready-use a.work.now a.core.now a.macros.now a.fuel a.list.node a.list.wrap a.reached c.requires.1 c.requires.0

pub form-requires : goal.form-requires
form-requires c = let a = c.args in (
  form-heads a.operations.now a.work.now a.list.node a.list.tail a.list.wrap _ (name_at a.work.now a.list.head a.list.wrap) c.requires.2
      (ap means_of (sym c.in-Form.is) ∙ found-by _ _ c.lookup.ensures _ c.in-Some.is),
  form-room a.work.now a.core.now a.macros.now a.fuel a.list.node a.list.wrap a.reached c.requires.1 c.requires.0,
)

pub put_application-headed-requires : goal.put_application-headed-requires
put_application-headed-requires c = let a = c.args in application-room a.work.now a.core.now a.macros.now a.fuel a.list.node a.list.wrap a.reached c.requires.1 c.requires.0 a.list.tail _ c.requires.2

pub put_application-headed-requires-in-Operation : goal.put_application-headed-requires-in-Operation
put_application-headed-requires-in-Operation c =
    let a = c.args in
    application-room a.work.now a.core.now a.macros.now a.fuel a.list.node a.list.wrap a.reached c.requires.1 c.requires.0 a.list.tail _ c.requires.2

pub returns-in-Variable : goal.returns-in-Variable
returns-in-Variable c = let a = c.args in
    let x = name_at a.work.now a.list.head a.list.wrap in
    λ operations lent. variable-turned macros_most operations a.work.now a.core.now a.macros.now a.fuel a.list.node a.list.tail a.list.wrap a.reached x c.requires.2 c.requires.0 c.requires.1 _ _ _
    (ap means_of (sym c.in-Variable.is) ∙ found-by _ _ c.lookup.ensures _ c.in-Some.is ∙ lookup-in operations a.operations.now x lent) c.put_application-headed.ensures

pub returns-in-Operation : goal.returns-in-Operation
returns-in-Operation c = let a = c.args in
    let x = name_at a.work.now a.list.head a.list.wrap in
    λ operations lent. operation-turned macros_most operations a.work.now a.core.now a.macros.now a.fuel a.list.node a.list.tail a.list.wrap a.reached x c.requires.2 c.requires.0 c.requires.1 _ _ _
    (ap means_of (sym c.in-Operation.is) ∙ found-by _ _ c.lookup.ensures _ c.in-Some.is ∙ lookup-in operations a.operations.now x lent) c.put_application-headed-in-Operation.ensures

pub returns-in-Macro : goal.returns-in-Macro
returns-in-Macro c = let a = c.args in
    let x = name_at a.work.now a.list.head a.list.wrap in
    λ operations lent. macro-turned macros_most operations a.work.now a.core.now a.macros.now a.fuel a.list.node a.list.tail a.list.wrap a.reached x c.requires.2 c.requires.0 c.requires.1 _ c.macro_use.new.work c.macro_use.result
    (ap means_of (sym c.in-Macro.is) ∙ found-by _ _ c.lookup.ensures _ c.in-Some.is ∙ lookup-in operations a.operations.now x lent) c.macro_use.auto.work c.macro_use.ensures

pub returns-in-Form : goal.returns-in-Form
returns-in-Form c = λ operations lent. c.form.ensures operations c.args.fuel c.requires.1
