use Rattle.std.proofs.Common.{sym, ◌∙◌}
use Rattle.cap_trackers.proofs.SettingLines.{is_set}
use Rattle.cap_trackers.proofs.refreshing.refresh_with.Goals as goal

pub returns-clause-replies : goal.returns-clause-replies
returns-clause-replies c =
    let is = rw c.settings.view_is at (rw c.in-Ok.is at c.settings.invariant.settings) in
    let same = rw (c.tree.ensures.rows, c.tree.ensures.queues) at c.same_paths.ensures in
    is_set c.args.cluster.now.flat c.set_settings.new.self.flat c.args.settings.now c.in-Ok.config c.text_has_one_answer.ensures c.settings_have_each_amount.ensures is (sym same ∙ c.if-not-same_paths.false) c.set_settings.ensures.flat
