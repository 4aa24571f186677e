-- The proof of the cycle {toggle}. The measure is the count of marks.
use Prim.Native.Nat.{ℕ, ◌<◌, ◌≤◌, ◌+◌, ◌-◌}
use borrow.Fn.Kinds.{In}
use borrow.Fn.PlainCycle.{Measures, is, falls, and}
use Rattle.resolution.proofs.marks.toggle.Reads as toggle
use Rattle.resolution.proofs.marks.toggle.Kinds as toggle-kinds
use Rattle.resolution.proofs.marks.+toggle.Lts-toggle as toggle-lts
use Rattle.resolution.proofs.marks.+toggle.{statement}
use Rattle.resolution.proofs.marks.+toggle.Tie.{close}
use native.Mathlib.Omega.{arith}
use lib.ListN.{get_or}
use Rattle.resolution.specs.MarkLaws.{toggled-none, toggled-cancel, toggled-front, toggled-later}
use borrow.Author.Rules.{rules}

abbrev μ-toggle : Measures 1 toggle-kinds.ps ℕ
μ-toggle κs a =
    a.1.1.0

abbrev toggle-at : ℕ → In 1 toggle-kinds.ps
toggle-at t = and 1 toggle-kinds.ps (is 1 toggle-kinds.ps μ-toggle t) toggle.Pre

abbrev toggle-below : ℕ → In 1 toggle-kinds.ps
toggle-below t = and 1 toggle-kinds.ps (falls 1 toggle-kinds.ps ◌<◌ μ-toggle t) toggle.Pre

abbrev toggle-claims : ℕ → toggle-lts.Claims
toggle-claims t = (toggle-below t, toggle.Post)

toggle-returns : (t : ℕ) → toggle-lts.Need-returns-then-count-eq0 (toggle-claims t) (toggle-at t) toggle.Post
toggle-returns t c =
    let a = c.args in
    let pre = c.requires in
    toggled-none a.marks.now a.start a.count a.m pre.1 c.if-count-eq0.true

toggle-returns-2 : (t : ℕ) → toggle-lts.Need-returns-then-x-m (toggle-claims t) (toggle-at t) toggle.Post
toggle-returns-2 t c =
    let a = c.args in
    let pre = c.requires in
    toggled-cancel a.marks.now a.start a.count a.m pre.1 c.if-count-eq0.false c.if-x-m.true

toggle-returns-3 : (t : ℕ) → toggle-lts.Need-returns-then-x-m-2 (toggle-claims t) (toggle-at t) toggle.Post
toggle-returns-3 t c =
    let a = c.args in
    let pre = c.requires in
    toggled-front a.marks.now a.start a.count a.m pre.1 c.if-count-eq0.false c.if-x-m.false c.if-x-m-2.true

toggle-slice-write-marks-3 : (t : ℕ) → toggle-lts.Need-bounds-marks-start-3 (toggle-claims t) (toggle-at t) toggle.Post
toggle-slice-write-marks-3 t c =
    omega (arith, c.toggle-n.ensures.room, c.toggle-n.auto.marks)

toggle-returns-4 : (t : ℕ) → toggle-lts.Need-returns (toggle-claims t) (toggle-at t) toggle.Post
toggle-returns-4 t c =
    let a = c.args in
    let pre = c.requires in
    let l : a.m ≤ get_or a.marks.now (a.start + (a.count - 1)) 0 = omega arith in toggled-later a.marks.now a.start a.count a.m pre.1 c.if-count-eq0.false c.if-x-m.false l c.toggle-n.new.marks c.toggle-n.result c.toggle-n.auto.marks c.toggle-n.ensures

pub +toggle_spec : {M : Type 1} → statement M
+toggle_spec =
    close
    μ-toggle
    λ t. toggle-lts.spec
    (toggle-below t, toggle.Post)
    (toggle-at t)
    toggle.Post
    (λ c. search rules)  -- toggle-mul-marks
    (λ c. search rules)  -- toggle-slice-write-marks
    (λ c. search rules)  -- toggle-same-length
    (toggle-returns t)
    (λ c. search rules)  -- toggle-sub-last
    (λ c. search rules)  -- toggle-add-x
    (λ c. search rules)  -- toggle-mul-x
    (λ c. search rules)  -- toggle-slice-read-x
    (toggle-returns-2 t)
    (λ c. search rules)  -- toggle-add-marks
    (λ c. search rules)  -- toggle-mul-marks-2
    (λ c. search rules)  -- toggle-slice-write-marks-2
    (λ c. search rules)  -- toggle-add-result
    (λ c. search rules)  -- toggle-same-length-2
    (toggle-returns-3 t)
    (λ c κs. search rules)  -- toggle-toggle-requires
    (λ c. search rules)  -- toggle-add-marks-2
    (λ c. search rules)  -- toggle-mul-marks-3
    (toggle-slice-write-marks-3 t)
    (λ c. search rules)  -- toggle-add-result-2
    (λ c. search rules)  -- toggle-same-length-3
    (toggle-returns-4 t)
