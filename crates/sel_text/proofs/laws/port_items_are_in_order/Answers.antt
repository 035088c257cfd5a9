use Rattle.sel_text.proofs.Orders.{port_in_order}
use Rattle.sel_text.proofs.laws.port_items_are_in_order.Goals as goal

pub returns : goal.returns
returns c = port_in_order
