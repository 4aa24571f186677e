-- A run, opened for computing: to unfold `computed` is to unfold all that a run goes through. Tables of known runs unfold it, laws do not.
use Rattle.std.specs.Prelude.{List, ℕ}
use Rattle.words.specs.Lists as Lists
use Rattle.words.specs.Options as Options
use Rattle.datum.specs.Constant as Constant
use Rattle.datum.specs.Datum as Datum
use Rattle.recipe.specs.Name as Name
use Rattle.recipe.specs.Tree as Tree
use Rattle.recipe.specs.Table as Table
use Rattle.core_term.specs.Node as Node
use Rattle.core_term.specs.Term as Term
use Rattle.core_term.specs.Words as Words
use Rattle.expansion.specs.Lookup as Lookup
use Rattle.expansion.specs.Rules as Rules
use Rattle.expansion.specs.Match as Match
use Rattle.expansion.specs.Transcribe as Transcribe
use Rattle.expansion.specs.Computation as Computation
use Rattle.expansion.specs.Forms as Forms
use Rattle.expansion.specs.Run as Run

unfoldable pub computed : (items : List ℕ) (fuel work core : ℕ) → Run.Run
unfolding
    Lists.within Lists.all_of Lists.any_of Lists.equal
    Options.only_if Options.map_some Options.map_both Options.traverse
    Constant.is_constant Constant.matches Constant.constant_words
    Datum.count
    Name.plain_name Name.binding_key Name.is_bound Name.same Name.distinct Name.is_ellipsis Name.is_wildcard Name.is_ordinary Name.toggle Name.mark_name
    Name.produce_name Name.give_binding Name.bind_name
    Tree.size Tree.names Tree.strip Tree.on_empty Tree.on_constant Tree.on_name Tree.on_pair Tree.is_name Tree.is_ordinary_name Tree.is_list Tree.elements
    Tree.is_list_of Tree.element Tree.tail Tree.past Tree.on_names Tree.mark Tree.produce Tree.bind Tree.bind_all
    Table.items Table.by_kind Table.constant_of Table.references Table.occurrences Table.kind_at Table.is_pair_item Table.is_item Table.is_referred_once
    Table.trees Table.tree_of Table.item_count Table.is_layout
    Node.node_words
    Term.count Term.on_formals
    Words.datum_words Words.encode
    Lookup.form_of Lookup.place_from Lookup.unbound_meaning Lookup.or_unbound Lookup.lookup Lookup.is_syntax_rules Lookup.agree
    Rules.chosen_count Rules.after_chosen Rules.ellipsis_of Rules.drivers Rules.is_driven Rules.depth_fits Rules.variable_from Rules.name_template Rules.are_variables
    Rules.list_template Rules.no_ellipsis Rules.dots_next Rules.depth_before Rules.place_after Rules.is_literal Rules.is_variable Rules.variables Rules.pattern_of Rules.template_of Rules.rule_of Rules.is_rules_form Rules.rules_of
    Match.fitting Match.misfit Match.and_then Match.both_fit Match.share Match.enough Match.each_fits Match.fit Match.or_next Match.first_fit Match.holds Match.part Match.taken_count
    Transcribe.copies Transcribe.all_below Transcribe.taken Transcribe.lengths Transcribe.copy_count Transcribe.equal_lengths Transcribe.transcribe
    Computation.start Computation.after Computation.go_on Computation.◌>>=◌ Computation.◌>>◌ Computation.give Computation.refuse Computation.show
    Computation.test Computation.or_refuse Computation.get Computation.add_variables Computation.add_macros Computation.add_step
    Forms.is_lambda Forms.formals Forms.is_macro Forms.is_macros Forms.first_names Forms.keywords Forms.rules_forms Forms.bindings Forms.read_rules
    Forms.expand_all Forms.expand_quote Forms.expand_if Forms.expand_lambda Forms.expand_macros Forms.expand_use Forms.expand_operands Forms.expand_list
    Forms.expand_name Forms.expand_application Forms.expand_pair Forms.expand_tree Forms.expand_within
    Run.ended Run.require Run.operation_numbers Run.are_operations Run.expand_recipe Run.run
computed = Run.run
