use Rattle.std.proofs.Common.{codes, ◌++◌, ◌≡◌}
use Rattle.picture_text.proofs.Sums.{back}
use Rattle.picture_command.proofs.whole.add_safe_head.Goals as goal

pub returns : goal.returns
returns c =
    let from_2 : c.add-3.new.into.items ≡ c.add.new.into.items ++ ((codes "<meta http-equiv='Content-Security-Policy' content='default-src &#39;none&#39;; style-src &#39;unsafe-inline&#39;'>\n") ++ (codes "<meta name='viewport' content='width=device-width'>\n")) =
    back c.add-3.new.into.items c.add-2.new.into.items c.add.new.into.items (codes "<meta http-equiv='Content-Security-Policy' content='default-src &#39;none&#39;; style-src &#39;unsafe-inline&#39;'>\n") (codes "<meta name='viewport' content='width=device-width'>\n") c.in_ok-add-3.ensures c.in_ok-add-2.ensures in
    let from_1 : c.add-3.new.into.items ≡ c.args.into.now.items ++ ((codes "<!DOCTYPE html>\n<html lang='en'>\n<head>\n<meta charset='utf-8'>\n") ++ ((codes "<meta http-equiv='Content-Security-Policy' content='default-src &#39;none&#39;; style-src &#39;unsafe-inline&#39;'>\n") ++ (codes "<meta name='viewport' content='width=device-width'>\n"))) =
    back c.add-3.new.into.items c.add.new.into.items c.args.into.now.items (codes "<!DOCTYPE html>\n<html lang='en'>\n<head>\n<meta charset='utf-8'>\n") ((codes "<meta http-equiv='Content-Security-Policy' content='default-src &#39;none&#39;; style-src &#39;unsafe-inline&#39;'>\n") ++ (codes "<meta name='viewport' content='width=device-width'>\n")) from_2 c.in_ok-add.ensures in
    from_1
