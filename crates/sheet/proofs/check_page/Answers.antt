-- `sheet::check_page` meets its contract: each refusal where those before it are not given. Assumes nothing.
use mathlib.Core.Path.{sym, subst}
use Prim.Native.Nat.{ℕ, ◌≤◌, ◌<◌}
use native.Mathlib.Omega.{arith}
use Rattle.std.proofs.lemmas.Result.{err_from_is_err_and}
use Rattle.refusals.proofs.Laws.{numbered}
use Rattle.sheet.specs.Page.{page_count}
use Rattle.sheet.proofs.Refusals.{rows_right}
use Rattle.sheet.proofs.Answers.{fault-33, rows-accepted, fault-34-low, fault-34-high, fault-35, fault-none}
use Rattle.sheet.proofs.check_page.Goals as goal
use Rattle.sheet.proofs.check_page.Goals.{then-page-lt1-via-then-page-lt1, then-page-lt1-via-else-page-lt1+then-page_count-page}

pub returns-in_err-check_rows : goal.returns-in_err-check_rows
returns-in_err-check_rows c = let a = c.args in
    let p = err_from_is_err_and c.from_residual.result c.from_residual.ensures.1 in
    let h = c.in_err-check_rows.ensures in
    rw (p.1, p.2) (sym (fault-33 a.list.now a.n a.rows a.page a.room _ h (numbered _)))

pub page_count-requires : goal.page_count-requires
page_count-requires c = let a = c.args in
    (rows_right a.list.now a.n a.rows (rows-accepted a.list.now a.n a.rows a.page a.room c.in_ok-check_rows.ensures)).few

pub returns-then-page-lt1 : goal.returns-then-page-lt1
returns-then-page-lt1 c = let a = c.args in
    let right = rows-accepted a.list.now a.n a.rows a.page a.room c.in_ok-check_rows.ensures in
    elim c.then-page-lt1.branch [
      | then-page-lt1-via-then-page-lt1 w ↦ sym (fault-34-low a.list.now a.n a.rows a.page a.room right w.if-page-lt1.true)
      | then-page-lt1-via-else-page-lt1+then-page_count-page w ↦
          let high : page_count a.rows < a.page = subst (λ (k : ℕ). k < a.page) w.page_count.ensures (omega arith) in
          sym (fault-34-high a.list.now a.n a.rows a.page a.room right (omega arith) high)
    ]

pub returns-then-room-lt-BYTES : goal.returns-then-room-lt-BYTES
returns-then-room-lt-BYTES c = let a = c.args in
    let right = rows-accepted a.list.now a.n a.rows a.page a.room c.in_ok-check_rows.ensures in
    let high : a.page ≤ page_count a.rows = subst (λ (k : ℕ). a.page ≤ k) c.page_count.ensures (omega arith) in
    sym (fault-35 a.list.now a.n a.rows a.page a.room right (omega arith) high (omega arith))

pub returns : goal.returns
returns c = let a = c.args in
    let right = rows-accepted a.list.now a.n a.rows a.page a.room c.in_ok-check_rows.ensures in
    let high : a.page ≤ page_count a.rows = subst (λ (k : ℕ). a.page ≤ k) c.page_count.ensures (omega arith) in
    sym (fault-none a.list.now a.n a.rows a.page a.room right (omega arith) high (omega arith))
