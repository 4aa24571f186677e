-- After an accepted run the recipe's own tables and term pass their tests: what a comparison refuses is the text.
use Rattle.std.specs.Prelude.{◌≡◌, List, ℕ}
use Rattle.std.proofs.Math.Path.{refl}
use Rattle.std.proofs.Math.Option.{some}
use Rattle.datum.specs.NameTable.{name_at}
use Rattle.reading.specs.Elements.{Answer, got, refused_for}
use Rattle.reading.specs.Read.{Recipe, read, item_words, name_bytes}
use Rattle.core_term.specs.Term.{Plain}
use Rattle.expansion.specs.Run.{accepted, told, core_of, run}
use Rattle.expansion.proofs.Bounds.Gas.{accepted-begun}
use Rattle.comparison.specs.Compare.{require, with_term, our_term, spelled_operations, held, replied, comparison}
use Rattle.output.specs.Written.{operation_count, AcceptedIsWritten}
use Rattle.output.proofs.WrittenLaws.{accepted-is-written, operations-written}

module _ (text : List ℕ) (items names : ℕ) (recipe : Recipe) (is_read : read text items names ≡ got recipe) (fuel work core : ℕ)
    (ends : (run (item_words recipe) fuel work core).outcome ≡ accepted) where
  abbrev words : List ℕ
  words = core_of (run (item_words recipe) fuel work core)

  -- our term
  pub ours : (t : Plain) × (our_term (item_words recipe) (name_bytes recipe) words ≡ some t)
  unfolding our_term AcceptedIsWritten operation_count
  ours = let w = accepted-is-written text items names recipe is_read fuel work core ends in (told w.term, w.passes)

  -- 7, 10 and 19 do not come: the answer is that of holding the other text against our term
  pub text-alone : (other : Answer Recipe)
      → (comparison (item_words recipe) (name_bytes recipe) words other).verdict
      ≡ held (name_at (name_bytes recipe)) (spelled_operations (item_words recipe) (name_bytes recipe)) ours.0 other
  unfolding comparison require with_term replied
  text-alone other =
      let b = accepted-begun (item_words recipe) fuel work core ends in
      rw (b.layout, b.operations, ours.1, operations-written text items names recipe is_read fuel work core ends) (by_answer other)
    where
      by_answer : (a : Answer Recipe) → (replied a (held (name_at (name_bytes recipe)) (spelled_operations (item_words recipe) (name_bytes recipe)) ours.0 a)).verdict
          ≡ held (name_at (name_bytes recipe)) (spelled_operations (item_words recipe) (name_bytes recipe)) ours.0 a
      by_answer (got r) = refl
      by_answer (refused_for stage g) = refl
