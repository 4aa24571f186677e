-- The answer of the call is yes exactly where the text is read as a rendering of our term.
use Rattle.std.specs.Prelude.{◌≡◌, true}
use Rattle.std.proofs.Common.{sym, ◌∙◌}
use Rattle.std.proofs.Math.Path.{ap, subst}
use mathlib.Core.List.{List, []}
use Rattle.std.proofs.Math.Option.{some, some-injective, none-ne-some}
use Prim.Native.Nat.{ℕ}
use Rattle.datum.specs.Datum.{Datum, Data, none_d, more_d}
use Rattle.datum.specs.NameTable.{name_at}
use Rattle.reading.specs.Numbering.{number_of}
use Rattle.reading.specs.Read.{name_bytes}
use Rattle.core_term.proofs.OfCode.CheckLaws.{accepted}
use Rattle.comparison.specs.Grammar.{the_one}
use Rattle.comparison.specs.Compare.{yes, spelled_operations, our_term, compare}
use Rattle.comparison.specs.Written.{written, is_expression}
use Rattle.comparison.proofs.WrittenLaws.{read-written}
use Rattle.comparison.proofs.CallLaws.{call-rendering, call-told}
use Rattle.comparison.specs.Exactly.{NamedAll}
use Rattle.comparison.proofs.ExactlyLaws.{first-is, agrees-rendered}
use Rattle.comparison.proofs.OwnLaws.{read-own}
use Rattle.comparison.specs.CallExactly.{ReadAsRendering}

one-is : (ds : Data) (d : Datum) → the_one ds ≡ some d → ds ≡ more_d d none_d
unfolding the_one
one-is none_d d e = absurd (none-ne-some _ e)
one-is (more_d c none_d) d e = ap (λ x. more_d x none_d) (some-injective _ _ e)
one-is (more_d c (more_d f ds)) d e = absurd (none-ne-some _ e)

module _ (items names words text : List ℕ) (n m : ℕ) where
  yes-rendering : (compare items names words text n m).verdict ≡ yes → ReadAsRendering items names words text n m
  unfolding our_term
  yes-rendering h =
      let k = call-told items names words text n m h in
      let r = k.reading in
      let x = k.told.expression in
      let number : List ℕ → ℕ = λ cs. number_of cs r.names in
      let w = read-written k.told.element x k.told.is-expression in
      let is : r.elements ≡ more_d (written x) none_d = one-is r.elements k.told.element k.told.is-element ∙ ap (λ d. more_d d none_d) (sym w.0) in
      let own = first-is (λ i. number (name_at (name_bytes r) i) ≡ i) (subst (NamedAll (λ i. number (name_at (name_bytes r) i) ≡ i)) is (read-own 1 text n m r k.is_read)) in
      let q = agrees-rendered (name_at (name_bytes r)) (name_at names) (spelled_operations items names) number x k.term (accepted _ _ words k.term k.ready.term).counted own k.told.agreed in
      record {
        term = k.term;
        ready = k.ready;
        reading = r;
        is_read = k.is_read;
        choice = q.choice;
        in-grammar = subst (λ y. is_expression y ≡ true) q.is-rendered w.1;
        uncaptured = q.uncaptured;
        is-element = is ∙ ap (λ y. more_d (written y) none_d) q.is-rendered;
      }

  rendering-answered : ReadAsRendering items names words text n m → (compare items names words text n m).verdict ≡ yes
  rendering-answered k = call-rendering items names words k.term k.ready text n m k.reading k.is_read k.choice k.in-grammar k.uncaptured k.is-element

  pub call-exactly : ((compare items names words text n m).verdict ≡ yes → ReadAsRendering items names words text n m)
      × (ReadAsRendering items names words text n m → (compare items names words text n m).verdict ≡ yes)
  call-exactly = (yes-rendering, rendering-answered)
