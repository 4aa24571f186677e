-- Tokens: a text has the tokens that tokens gives, where each of them is allowed, and no others.
use Rattle.std.specs.Prelude.{◌≡◌, refl, Bool, cond, List, [], ◌∷◌, ◌++◌, ℕ, eqb}
use Rattle.std.proofs.Common.{sym, ap, ◌∙◌, append_assoc, append-nil, arith, eqb-true}
use Rattle.std.proofs.Math.Path.{subst}
use Rattle.std.proofs.Math.Bool.{true, false}
use Rattle.std.proofs.Math.Seq.{append_snoc}
use Rattle.words.specs.Lists.{within, all_of, any_of}
use Rattle.words.specs.TestLaws.{and_left, and_right}
use Rattle.words.specs.ListLaws.{either, never, Each, any-each, all_append}
use Rattle.words.specs.Text.{bytes}
use Rattle.reading.specs.Token.{
  Class,
  separating,
  opening,
  closing,
  sharp,
  running,
  foreign,
  is_digit,
  is_running,
  is_separating,
  class_of,
  Token,
  open',
  close',
  bad,
  flag,
  run,
  Pending,
  nothing,
  hash,
  among,
  flag_of,
  alone,
  after_run,
  completed,
  begun,
  next,
  ended,
  tokens_after,
  tokens,
}
use Rattle.reading.specs.Meaning.{Meaning}
use Rattle.reading.specs.RecipeText as R
use Rattle.reading.specs.RecipeText.{EndsRun, at_end, before, HasTokens, Means, Mean}

-- ---- classes

-- what a byte's class says of it
pub data ClassIs : ℕ → Class → Type 0 where
  is_separator : {b : ℕ} → is_running b ≡ false → is_separating b ≡ true → ClassIs b separating
  is_opening : ClassIs 40 opening
  is_closing : ClassIs 41 closing
  is_sharp : ClassIs 35 sharp
  is_run : {b : ℕ} → is_running b ≡ true → ClassIs b running
  is_foreign : {b : ℕ} → is_running b ≡ false → ClassIs b foreign

class_tested : (b : ℕ) (r s o c h : Bool) → is_running b ≡ r → is_separating b ≡ s → eqb b 40 ≡ o → eqb b 41 ≡ c → eqb b 35 ≡ h
    → ClassIs b (cond r running (cond s separating (cond o opening (cond c closing (cond h sharp foreign)))))
class_tested b true s o c h er es eo ec eh = is_run er
class_tested b false true o c h er es eo ec eh = is_separator er es
class_tested b false false true c h er es eo ec eh = subst (λ n. ClassIs n opening) (sym (eqb-true b 40 eo)) is_opening
class_tested b false false false true h er es eo ec eh = subst (λ n. ClassIs n closing) (sym (eqb-true b 41 ec)) is_closing
class_tested b false false false false true er es eo ec eh = subst (λ n. ClassIs n sharp) (sym (eqb-true b 35 eh)) is_sharp
class_tested b false false false false false er es eo ec eh = is_foreign er

pub class_is : (b : ℕ) → ClassIs b (class_of b)
unfolding class_of
class_is b = class_tested b _ _ _ _ _ refl refl refl refl refl

pub class-running : (b : ℕ) → is_running b ≡ true → class_of b ≡ running
unfolding class_of
class-running b h = rw h

-- no separator is in a run
separating-not-running : (b : ℕ) → is_separating b ≡ true → is_running b ≡ false
unfolding is_separating is_running is_digit within any_of bytes Each
separating-not-running b h =
    any-each (λ n. is_running n ≡ false) b (bytes " \t\n\r") (refl, (refl, (refl, (refl, omega arith)))) h

class-separating : (b : ℕ) → is_separating b ≡ true → class_of b ≡ separating
unfolding class_of
class-separating b h = rw (separating-not-running b h, h)

-- ---- a byte that is in no run ends one

ends_run : (cs : List ℕ) (b : ℕ) (k : Class) (bs : List ℕ) → ClassIs b k → is_running b ≡ false
    → after_run cs k ++ tokens_after (begun cs b k) bs ≡ run cs ∷ (alone k ++ tokens_after (begun [] b k) bs)
unfolding after_run begun alone
ends_run cs b separating bs i h = refl
ends_run cs b opening bs i h = refl
ends_run cs b closing bs i h = refl
ends_run cs b sharp bs i h = refl
ends_run cs b running bs (is_run r) h = never r h
ends_run cs b foreign bs i h = refl

pub run_ends : (cs : List ℕ) (b : ℕ) (bs : List ℕ) → is_running b ≡ false
    → tokens_after (among cs) (b ∷ bs) ≡ run cs ∷ tokens_after nothing (b ∷ bs)
unfolding tokens_after completed next
run_ends cs b bs h = ends_run cs b (class_of b) bs (class_is b) h

pub run-byte : (cs : List ℕ) (b : ℕ) (bs : List ℕ) → is_running b ≡ true
    → tokens_after (among cs) (b ∷ bs) ≡ tokens_after (among (cs ++ (b ∷ []))) bs
unfolding tokens_after completed next begun after_run
run-byte cs b bs h = rw (class-running b h)

-- a run goes on to its end
pub run-goes-on : (cs ds bs : List ℕ) → all_of is_running ds ≡ true → EndsRun bs
    → tokens_after (among cs) (ds ++ bs) ≡ run (cs ++ ds) ∷ tokens_after nothing bs
unfolding tokens_after completed next ended all_of begun after_run
run-goes-on cs [] [] h at_end = rw append-nil
run-goes-on cs [] (b ∷ bs) h (before e) = rw append-nil (run_ends cs b bs e)
run-goes-on cs (d ∷ ds) bs h e =
    let k : class_of d ≡ running = class-running d (and_left (is_running d) (all_of is_running ds) h) in
    rw k (run-goes-on (cs ++ (d ∷ [])) ds bs (and_right (is_running d) (all_of is_running ds) h) e
    ∙ ap (λ l. run l ∷ tokens_after nothing bs) (append_assoc cs (d ∷ []) ds))

-- ---- a text that has tokens is read as these

pub separator-skipped : (b : ℕ) (bs : List ℕ) → is_separating b ≡ true → tokens_after nothing (b ∷ bs) ≡ tokens_after nothing bs
unfolding tokens_after completed next alone begun
separator-skipped b bs h = rw (class-separating b h)

pub run-taken : (c : ℕ) (cs bs : List ℕ) → all_of is_running (c ∷ cs) ≡ true → EndsRun bs
    → tokens_after nothing (c ∷ cs ++ bs) ≡ run (c ∷ cs) ∷ tokens_after nothing bs
unfolding tokens_after completed next alone begun all_of
run-taken c cs bs h e =
    let k : class_of c ≡ running = class-running c (and_left (is_running c) (all_of is_running cs) h) in
    rw k (run-goes-on (c ∷ []) cs bs (and_right (is_running c) (all_of is_running cs) h) e)

tokens_are : {text : List ℕ} {ts : List Token} → HasTokens text ts → tokens_after nothing text ≡ ts
unfolding tokens_after completed next ended flag_of alone begun class_of is_running is_digit is_separating within any_of bytes
tokens_are R.none = refl
tokens_are (R.separator {b} {bs} {ts} h r) = separator-skipped b bs h ∙ tokens_are r
tokens_are (R.opening r) = ap (λ l. open' ∷ l) (tokens_are r)
tokens_are (R.closing r) = ap (λ l. close' ∷ l) (tokens_are r)
tokens_are (R.hash-t r) = ap (λ l. flag 1 ∷ l) (tokens_are r)
tokens_are (R.hash-f r) = ap (λ l. flag 0 ∷ l) (tokens_are r)
tokens_are (R.longest {c} {cs} {bs} {ts} h e r) = run-taken c cs bs h e ∙ ap (λ l. run (c ∷ cs) ∷ l) (tokens_are r)

pub tokens-are : {text : List ℕ} {ts : List Token} → HasTokens text ts → tokens text ≡ ts
unfolding tokens
tokens-are r = tokens_are r

-- ---- a text has the tokens it is read as, where each has a meaning

-- the bytes of what is pending
unfoldable pending_bytes : Pending → List ℕ
pending_bytes nothing = []
pending_bytes hash = 35 ∷ []
pending_bytes (among cs) = cs

-- a run that is pending is one
data Runs : Pending → Type 0 where
  none : Runs nothing
  sharp' : Runs hash
  some : {c : ℕ} {cs : List ℕ} → all_of is_running (c ∷ cs) ≡ true → Runs (among (c ∷ cs))

unfoldable is_bad : Token → Bool
is_bad open' = false
is_bad close' = false
is_bad bad = true
is_bad (flag b) = false
is_bad (run cs) = false

means-good : {t : Token} {m : Meaning} → Means t m → is_bad t ≡ false
unfolding is_bad
means-good R.opens = refl
means-good R.closes = refl
means-good R.boolean' = refl
means-good (R.positive cs p q r) = refl
means-good (R.negative cs p q r) = refl
means-good (R.named p q r s) = refl

-- bad means nothing
no-bad : {P : Type 0} {ts : List Token} {ms : List Meaning} → Mean (bad ∷ ts) ms → P
unfolding is_bad
no-bad (R.more w q) = never refl (means-good w)

-- the text after what is pending
abbrev Has : List ℕ → Pending → Type 0
Has bs p = (ms : List Meaning) → Runs p → Mean (tokens_after p bs) ms → HasTokens (pending_bytes p ++ bs) (tokens_after p bs)

module _ (bs : List ℕ) (ih : (p : Pending) → Has bs p) where
  -- a byte with nothing pending before it
  fresh : (b : ℕ) (k : Class) (ms : List Meaning) → ClassIs b k → Mean (alone k ++ tokens_after (begun [] b k) bs) ms
      → HasTokens (b ∷ bs) (alone k ++ tokens_after (begun [] b k) bs)
  unfolding alone begun pending_bytes all_of
  fresh b separating ms (is_separator n h) w = R.separator h (ih nothing ms none w)
  fresh b opening ms is_opening (R.more v w) = R.opening (ih nothing _ none w)
  fresh b closing ms is_closing (R.more v w) = R.closing (ih nothing _ none w)
  fresh b sharp ms is_sharp w = ih hash ms sharp' w
  fresh b running ms (is_run h) w = ih (among (b ∷ [])) ms (some (rw h)) w
  fresh b foreign ms i w = no-bad w

  -- a byte after a #
  flagged : (b : ℕ) (t f : Bool) (ms : List Meaning) → eqb b 116 ≡ t → eqb b 102 ≡ f
      → Mean (cond t (flag 1) (cond f (flag 0) bad) ∷ tokens_after nothing bs) ms
      → HasTokens (35 ∷ b ∷ bs) (cond t (flag 1) (cond f (flag 0) bad) ∷ tokens_after nothing bs)
  unfolding pending_bytes
  flagged b true f ms p q (R.more v w) =
      subst (λ n. HasTokens (35 ∷ n ∷ bs) (flag 1 ∷ tokens_after nothing bs)) (sym (eqb-true b 116 p)) (R.hash-t (ih nothing _ none w))
  flagged b false true ms p q (R.more v w) =
      subst (λ n. HasTokens (35 ∷ n ∷ bs) (flag 0 ∷ tokens_after nothing bs)) (sym (eqb-true b 102 q)) (R.hash-f (ih nothing _ none w))
  flagged b false false ms p q w = no-bad w

  byte : (b : ℕ) (ms : List Meaning) → Mean (tokens_after nothing (b ∷ bs)) ms → HasTokens (b ∷ bs) (tokens_after nothing (b ∷ bs))
  unfolding tokens_after completed next
  byte b ms w = fresh b (class_of b) ms (class_is b) w

  -- a byte after a run, in it or not
  going_on : (c : ℕ) (cs : List ℕ) (b : ℕ) (ms : List Meaning) → all_of is_running (c ∷ cs) ≡ true → is_running b ≡ true
      → Mean (tokens_after (among (c ∷ cs)) (b ∷ bs)) ms → HasTokens (c ∷ cs ++ b ∷ bs) (tokens_after (among (c ∷ cs)) (b ∷ bs))
  unfolding pending_bytes all_of
  going_on c cs b ms h r w =
      let a : all_of is_running (c ∷ cs ++ (b ∷ [])) ≡ true = all_append is_running (c ∷ cs) (b ∷ []) h (rw r) in
      rw (run-byte (c ∷ cs) b bs r)
      (rw (append_snoc (c ∷ cs) b bs) at
      (ih (among (c ∷ cs ++ (b ∷ []))) ms (some a) (rw (run-byte (c ∷ cs) b bs r) at w)))

  behind : (c : ℕ) (cs : List ℕ) (b : ℕ) (ms : List Meaning) → all_of is_running (c ∷ cs) ≡ true → is_running b ≡ false
      → Mean (run (c ∷ cs) ∷ tokens_after nothing (b ∷ bs)) ms → HasTokens (c ∷ cs ++ b ∷ bs) (run (c ∷ cs) ∷ tokens_after nothing (b ∷ bs))
  behind c cs b ms h r (R.more v w) = R.longest h (before r) (byte b _ w)

  after_run_lem : (c : ℕ) (cs : List ℕ) (b : ℕ) (ms : List Meaning) → all_of is_running (c ∷ cs) ≡ true
      → Mean (tokens_after (among (c ∷ cs)) (b ∷ bs)) ms → HasTokens (c ∷ cs ++ b ∷ bs) (tokens_after (among (c ∷ cs)) (b ∷ bs))
  after_run_lem c cs b ms h w =
      either (is_running b) (λ r. going_on c cs b ms h r w)
      (λ r. let e = run_ends (c ∷ cs) b bs r in rw e (behind c cs b ms h r (rw e at w)))

has : (bs : List ℕ) (p : Pending) → Has bs p
unfolding pending_bytes tokens_after ended completed next flag_of
has [] nothing ms r w = R.none
has [] hash ms r w = no-bad w
has [] (among cs) ms (some h) w = R.longest h at_end R.none
has (b ∷ bs) nothing ms r w = byte bs (has bs) b ms w
has (b ∷ bs) hash ms r w = flagged bs (has bs) b (eqb b 116) (eqb b 102) ms refl refl w
has (b ∷ bs) (among cs) ms (some {c} {cs = ds} h) w = after_run_lem bs (has bs) c ds b ms h w

pub tokens-had : (text : List ℕ) (ms : List Meaning) → Mean (tokens text) ms → HasTokens text (tokens text)
unfolding tokens pending_bytes
tokens-had text ms w = has text nothing ms none w
