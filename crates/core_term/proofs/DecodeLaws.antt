-- Laws of decode: it gives back every well-formed term, and its words alone.
use Rattle.std.specs.Prelude.{◌≡◌, refl, true, List, [], ◌∷◌, ◌++◌, ℕ, ◌+◌, length}
use Rattle.std.proofs.Common.{sym, ap, subst, ◌∙◌, append-nil, arith}
use Rattle.std.proofs.Math.Option.{some}
use Rattle.core_term.specs.Node.{Got, got, missing}
use Rattle.core_term.specs.Term.{Plain}
use Rattle.core_term.specs.Words.{encode}
use Rattle.core_term.specs.Decode.{term_at, whole, decode}
use Rattle.core_term.specs.Every.{every, proper, well_formed}
use Rattle.core_term.proofs.DecodeRound.{term-round}
use Rattle.core_term.proofs.DecodeReadLaws.{term-read}

-- ---- decode

pub decode-encode : (t : Plain) → well_formed t ≡ true → decode (encode t) ≡ some t
unfolding decode whole well_formed
decode-encode t h =
    let e : term_at (length (encode t)) (encode t) ≡ got t [] =
    subst (λ (z : List ℕ). term_at (length (encode t)) z ≡ got t []) (append-nil (encode t)) (term-round t (length (encode t)) 0 [] h (omega arith)) in
    rw e

pub encode-decode : (ws : List ℕ) (t : Plain) → decode ws ≡ some t → (encode t ≡ ws) × (well_formed t ≡ true)
unfolding decode whole well_formed
encode-decode ws t h = go (term_at (length ws) ws) refl h
  where
    go : (g : Got Plain) → term_at (length ws) ws ≡ g → whole g ≡ some t → (encode t ≡ ws) × (well_formed t ≡ true)
    go (got u []) e k =
        let s = term-read (length ws) ws u [] e in
        let i : u ≡ t = cc in
        rw (sym i) (sym (s.words ∙ append-nil (encode u)), s.fine 0)
    go (got u (w ∷ r)) e k = let z : ◌≡◌ {A = ℕ} 0 1 = cc in absurd (omega arith)
    go missing e k = let z : ◌≡◌ {A = ℕ} 0 1 = cc in absurd (omega arith)

-- ---- the words of two terms

-- no term's words begin another's
pub encode-unique : (t u : Plain) (r s : List ℕ) (b c : ℕ) → every proper tt b t ≡ true → every proper tt c u ≡ true → encode t ++ r ≡ encode u ++ s → (t ≡ u) × (r ≡ s)
encode-unique t u r s b c p q e =
    let n = length (encode t) + length (encode u) in
    let x : term_at n (encode t ++ r) ≡ got t r = term-round t n b r p (omega arith) in
    let y : term_at n (encode u ++ s) ≡ got u s = term-round u n c s q (omega arith) in
    let z : got t r ≡ got u s = sym x ∙ ap (term_at n) e ∙ y in
    (cc, cc)
