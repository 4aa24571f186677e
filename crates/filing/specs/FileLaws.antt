-- Each way through the program's functions.
use Rattle.std.specs.Prelude.{◌≡◌, Bool, cond, nat_le, true, false, List, [], ◌∷◌, ◌++◌, ℕ, ◌+◌, ◌-◌, ◌≤◌, ◌<◌, length, take, drop, Some, None, Result, Ok, Err}
use Rattle.std.specs.declared.option.Option as O
use Rattle.std.proofs.Math.Path.{refl}
use Rattle.std.proofs.Common.{sym, ap, subst, ◌∙◌, arith, length-append, length-drop, take-append-drop, length-take-le}
use Rattle.std.proofs.Math.Option.{Option, some}
use Rattle.core_term.specs.Text.{spaced_after, spaced}
use Rattle.output.specs.Output.{line, header, acceptance}
use Rattle.words.specs.declared.ground.Ground.{Ground}
use Rattle.words.specs.declared.ground.Ground.TheVariants as G
use Rattle.words.specs.declared.ground.Ground.TheVariants.{NoRoom}
use Rattle.words.specs.Code.Ground.{number_of}
use Rattle.writer.specs.Laid.{laid, Left}
use Rattle.writer.specs.LaidLaws.{laid-length, laid-append, laid-before, laid-part, laid-first, done-is, full_is, left-done}
use Rattle.writer.specs.Writing.{ground_of, length_of, Outcome, laid as laid-text, refused_on, outcome, ground_number, size, after}
use Rattle.words.specs.Tables.{testing}
use borrow.Author.Tests.{leb-false}
use Rattle.writer.specs.Wrote.{Wrote}
use Rattle.writer.specs.WroteLaws.{wrote-all, wrote_none, written-fits, written_is, no-room-is, measured-full, measured-is}
use Rattle.filing.specs.File.{Spared, spared, crowded}

-- an equal output
pub wrote-is : {x y d e : List ℕ} {r : Result ℕ Ground} → x ≡ y → Wrote (some x) d e r → Wrote (some y) d e r
wrote-is {d = d} {e = e} {r = r} h w = subst (λ (z : List ℕ). Wrote (some z) d e r) h w

number-least : (g : Ground) → 1 ≤ number_of g
number-least G.ShortTables = omega arith
number-least G.LongText = omega arith
number-least G.BadToken = omega arith
number-least G.NumberOutOfRange = omega arith
number-least G.Unbalanced = omega arith
number-least G.TooMany = omega arith
number-least G.BadLayout = omega arith
number-least G.TooMuchFuel = omega arith
number-least G.SmallTables = omega arith
number-least G.BadOperations = omega arith
number-least G.Unbound = omega arith
number-least G.BareForm = omega arith
number-least G.BadForm = omega arith
number-least G.DoubleName = omega arith
number-least G.BadRules = omega arith
number-least G.NoRule = omega arith
number-least G.UnequalLists = omega arith
number-least G.OutOfFuel = omega arith
number-least G.NoTerm = omega arith
number-least G.NoRoom = omega arith
number-least G.OutsideGrammar = omega arith
number-least G.OpenName = omega arith
number-least G.WrongKind = omega arith
number-least G.WrongCount = omega arith
number-least G.OutOfBudget = omega arith

-- a refusal of a text is for want of room
pub refused-no-room : (x out out' : List ℕ) (g : Ground) → Wrote (some x) out out' (Err g) → (length out < length x) × (out' ≡ out)
unfolding ground_of length_of outcome ground_number size after
refused-no-room x out out' g w = go (nat_le (length x) (length out)) refl w.number w.left
  where
    by : Bool → Outcome
    by fits = cond fits (laid-text x) (refused_on testing 20)

    go : (b : Bool) → nat_le (length x) (length out) ≡ b → number_of g ≡ ground_number (by b) → out' ≡ after (by b) out → (length out < length x) × (out' ≡ out)
    go true k n l = absurd (omega (arith, n, number-least g))
    go false k n l = (leb-false (length x) (length out) k, l)

-- ---- a term's text, with a byte to spare

module _ (from : ℕ) (d : List ℕ) (low : from < length d) where
  abbrev last : ℕ
  last = length d - 1

  -- the part that is lent for it, and put back
  abbrev lent : List ℕ
  lent = take (last - from) (drop from d)

  abbrev back : List ℕ → List ℕ
  back p = take from d ++ (p ++ drop (last - from) (drop from d))

  lent_length : length lent ≡ last - from
  lent_length = length-take-le (last - from) (drop from d) (omega (arith, length-drop from d))

  module _ (o : Option (List ℕ)) (p : List ℕ) (r : Result ℕ Ground) (w : Wrote o lent p r) where
    pub term-end : (n : ℕ) → r ≡ Ok n → from + n < length d
    term-end n h = omega (arith, lent_length, written-fits o lent p n (subst (Wrote o lent p) h w))

    module _ (x : List ℕ) (e : o ≡ some x) where
      told-as : (v : Result ℕ Ground) → r ≡ v → Wrote (some x) lent p v
      told-as v h = subst (λ (z : Option (List ℕ)). Wrote z lent p v) e (subst (Wrote o lent p) h w)

      pub term-spared : (n : ℕ) → r ≡ Ok n → Spared x from d (back p) (Some (from + n))
      term-spared n h =
          let k = written_is x lent p n (told-as (Ok n) h) in
          spared {to = from + n} (omega arith) (term-end n h) (ap back k.2 ∙ laid-part x from last d (omega arith) (omega (arith, lent_length)))

      pub term-crowded : (g : Ground) → r ≡ Err g → Spared x from d (back p) None
      term-crowded g h =
          let k = refused-no-room x lent p g (told-as (Err g) h) in
          crowded (omega (arith, lent_length))
          (ap back k.1 ∙ ap (λ (z : List ℕ). take from d ++ z) (take-append-drop (last - from) (drop from d)) ∙ take-append-drop from d)

module _ {x : List ℕ} {at : ℕ} {d e : List ℕ} where
  spared-is : {to : ℕ} → Spared x at d e (Some to) → (to ≡ at + length x) × (to < length d) × (e ≡ laid true x at d)
  spared-is (spared p q s) = (p, q, s)

  crowded-is : Spared x at d e None → (length d ≤ at + length x) × (e ≡ d)
  crowded-is (crowded p q) = (p, q)

-- ---- an accepted term

module _ (steps sum : ℕ) (x d : List ℕ) where
  abbrev first : List ℕ
  first = header steps sum

  abbrev all : List ℕ
  all = acceptance steps sum x

  whole : all ≡ first ++ (x ++ (10 ∷ []))
  unfolding acceptance line spaced spaced_after
  whole = refl

  all-length : length all ≡ length first + (length x + 1)
  all-length = ap length whole ∙ omega (arith, length-append first (x ++ (10 ∷ [])), length-append x (10 ∷ []))

  module _ (e : List ℕ) (r : O.Option ℕ) (dry : Left false first 0 d e r) where
    pub header-full : r ≡ None → Wrote (some all) d e (Err NoRoom)
    header-full h = let k = no-room-is first d e (measured-full first d e r dry h) in wrote_none all d (omega (arith, all-length)) e k.1

    module _ (from : ℕ) (h : r ≡ Some from) where
      abbrev measured : (from ≡ length first) × (length first ≤ length d) × (e ≡ d)
      measured = measured-is first d e r dry from h

      pub no_byte : length e ≤ from → Wrote (some all) d e (Err NoRoom)
      no_byte l = wrote_none all d (omega (arith, all-length, measured, ap length measured.2)) e measured.2

      module _ (f : List ℕ) (s : O.Option ℕ) (told : Spared x from e f s) where
        pub term-full : s ≡ None → Wrote (some all) d f (Err NoRoom)
        term-full g =
            let k = crowded-is (subst (Spared x from e f) g told) in
            wrote_none all d (omega (arith, all-length, measured, ap length measured.2)) f (k.1 ∙ measured.2)

        module _ (to : ℕ) (g : s ≡ Some to) where
          abbrev there : (to ≡ from + length x) × (to < length e) × (f ≡ laid true x from e)
          there = spared-is (subst (Spared x from e f) g told)

          there-length : length f ≡ length e
          there-length = ap length there.2 ∙ laid-length true x from e (omega (arith, there))

          module _ (f' : List ℕ) (u : O.Option ℕ) (lf : Left true (10 ∷ []) to f f' u) where
            pub end-never-full : u ≡ None → Wrote (some all) d f' (Err NoRoom)
            end-never-full b = let k = full_is (subst (Left true (10 ∷ []) to f f') b lf) in absurd (omega (arith, there, there-length))

            module _ (end : ℕ) (b : u ≡ Some end) where
              abbrev ended : (end ≡ to + 1) × (end ≤ length f) × (f' ≡ laid true (10 ∷ []) to f)
              ended = done-is (left-done lf end b)

              -- the term and LF
              behind : f' ≡ laid true (x ++ (10 ∷ [])) from d
              behind =
                  ended.2 ∙ ap (laid true (10 ∷ []) to) (there.2 ∙ ap (laid true x from) measured.2)
                  ∙ laid-append true x (10 ∷ []) from to d there.0 (omega (arith, there, ap length measured.2))

              fits : from + length (x ++ (10 ∷ [])) ≤ length d
              fits = omega (arith, length-append x (10 ∷ []), there, ap length measured.2)

              behind-length : length f' ≡ length d
              behind-length = ap length behind ∙ laid-length true (x ++ (10 ∷ [])) from d fits

              module _ (f'' : List ℕ) (v : O.Option ℕ) (wet : Left true first 0 f' f'' v) where
                pub header-never-full : v ≡ None → Wrote (some all) d f'' (Err NoRoom)
                header-never-full q = let k = full_is (subst (Left true first 0 f' f'') q wet) in absurd (omega (arith, measured, behind-length))

                pub accepted-wrote : (again : ℕ) → v ≡ Some again → Wrote (some all) d f'' (Ok end)
                accepted-wrote again q =
                    let k = done-is (left-done wet again q) in
                    let y = x ++ (10 ∷ []) in
                    wrote-all all d (omega (arith, all-length, measured, fits, length-append x (10 ∷ []))) end f''
                    (omega (arith, all-length, measured, there, ended))
                    (k.2 ∙ ap (laid true first 0) behind ∙ laid-before first y 0 from d (omega (arith, measured)) fits
                    ∙ ap (λ (z : List ℕ). laid true z 0 d) (sym whole) ∙ laid-first all d)
