-- The parts of a cluster are no larger than memory, where there are not too many kinds of resource.
use Rattle.cap_commit.proofs.Prelude.{ℕ, ◌+◌, ◌*◌, ◌≤◌, ◌<◌, arith, max, resources_max}

-- rounding up to a boundary of 8 bytes adds less than 8, to one of 4 less than 4, to one of 1 byte nothing
pub record Rounds (u v w : ℕ → ℕ) : Type 0 where
  pub eights : (x : ℕ) → u x ≤ x + 8
  pub fours : (x : ℕ) → w x ≤ x + 4
  pub ones : (x : ℕ) → v x ≤ x

pub up_rounds : Rounds (prog.Memory.up 8) (prog.Memory.up 1) (prog.Memory.up 4)
up_rounds = record { eights = λ x. omega arith; fours = λ x. omega arith; ones = λ x. omega arith }

module _ (u v w : ℕ → ℕ) (r : Rounds u v w) (n : ℕ) (few : n ≤ resources_max) where
  abbrev amounts : ℕ
  amounts = u (0 + n * 8)

  abbrev maximum : ℕ
  maximum = u (max 1 (max (8 + amounts) 1))

  abbrev counted : ℕ
  counted = u (u (0 + amounts) + 8)

  abbrev fields : ℕ
  fields = u (u (v (u (u (24 + amounts) + maximum) + 8) + 1) + counted)

  abbrev shares : ℕ
  shares = u (0 + n * 16)

  abbrev queue : ℕ
  queue = u (u (u (u (fields + shares) + 112) + 24) + 8)

  amounts_few : amounts ≤ 9000
  amounts_few = let a = r.eights (0 + n * 8) in let f : n ≤ 1000 = few in omega (arith, a, f)

  maximum_few : maximum ≤ 10000
  maximum_few = let a = r.eights (max 1 (max (8 + amounts) 1)) in let f = amounts_few in omega (arith, a, f)

  fields_few : fields ≤ 40000
  fields_few =
      let a = amounts_few in
      let m = maximum_few in
      let b = r.eights (24 + amounts) in
      let c = r.eights (u (24 + amounts) + maximum) in
      let d = r.ones (u (u (24 + amounts) + maximum) + 8) in
      let e = r.eights (v (u (u (24 + amounts) + maximum) + 8) + 1) in
      let f = r.eights (u (v (u (u (24 + amounts) + maximum) + 8) + 1) + counted) in
      let x = r.eights (0 + amounts) in
      let y = r.eights (u (0 + amounts) + 8) in
      omega (arith, a, m, b, c, d, e, f, x, y)

  queue_few : queue ≤ 70000
  queue_few =
      let a = fields_few in
      let b = r.eights (0 + n * 16) in
      let c = r.eights (fields + shares) in
      let d = r.eights (u (fields + shares) + 112) in
      let e = r.eights (u (u (fields + shares) + 112) + 24) in
      let g = r.eights (u (u (u (fields + shares) + 112) + 24) + 8) in
      let f : n ≤ 1000 = few in
      omega (arith, a, b, c, d, e, f, g)

  queue_is_small : queue < 9223372036854775808
  queue_is_small = let a = queue_few in omega (arith, a)

  abbrev branch : ℕ
  branch = u (v (u (u (u (0 + queue) + 24) + 24) + 24) + 1)

  abbrev tree : ℕ
  tree = u (u (0 + branch) + 80)

  tree_is_small : tree < 9223372036854775808
  tree_is_small =
      let a = queue_few in
      let b = r.eights (0 + queue) in
      let c = r.eights (u (0 + queue) + 24) in
      let d = r.eights (u (u (0 + queue) + 24) + 24) in
      let e = r.ones (u (u (u (0 + queue) + 24) + 24) + 24) in
      let f = r.eights (v (u (u (u (0 + queue) + 24) + 24) + 24) + 1) in
      let g = r.eights (0 + branch) in
      let h = r.eights (u (0 + branch) + 80) in
      omega (arith, a, b, c, d, e, f, g, h)

  abbrev report : ℕ
  report = u (w (u (u (8 + amounts) + maximum) + amounts) + 4)

  report_is_small : report < 9223372036854775808
  report_is_small =
      let a = amounts_few in
      let m = maximum_few in
      let b = r.eights (8 + amounts) in
      let c = r.eights (u (8 + amounts) + maximum) in
      let d = r.fours (u (u (8 + amounts) + maximum) + amounts) in
      let e = r.eights (w (u (u (8 + amounts) + maximum) + amounts) + 4) in
      omega (arith, a, m, b, c, d, e)

abbrev pub up8 : ℕ → ℕ
up8 = prog.Memory.up 8

pub queue_fits : (n : ℕ) (few : n ≤ resources_max) → queue up8 (prog.Memory.up 1) (prog.Memory.up 4) up_rounds n few < 9223372036854775808
queue_fits n few = queue_is_small up8 (prog.Memory.up 1) (prog.Memory.up 4) up_rounds n few

pub tree_fits : (n : ℕ) (few : n ≤ resources_max) → tree up8 (prog.Memory.up 1) (prog.Memory.up 4) up_rounds n few < 9223372036854775808
tree_fits n few = tree_is_small up8 (prog.Memory.up 1) (prog.Memory.up 4) up_rounds n few

pub report_fits : (n : ℕ) (few : n ≤ resources_max) → report up8 (prog.Memory.up 1) (prog.Memory.up 4) up_rounds n few < 9223372036854775808
report_fits n few = report_is_small up8 (prog.Memory.up 1) (prog.Memory.up 4) up_rounds n few
