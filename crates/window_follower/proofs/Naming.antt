-- Where each name's atom stands.
use Rattle.std.proofs.Common.{refl}
use Rattle.window_follower.specs.Laws.{NamesHaveTheirPlaces}
use Rattle.window_follower.specs.declared.names.TextProperty.TheVariants.{OldTitle, Title, Machine, ClientId}
use Rattle.window_follower.specs.declared.names.NumberProperty.TheVariants.{State, Protocols, Leader, TransientFor, Types, States, UserTime, UserTimeWindow, Process}
use Rattle.window_follower.specs.declared.names.WindowProperty.TheVariants.{Text, Numbers}
use Rattle.window_follower.specs.declared.names.RootProperty.TheVariants.{Check, Windows}
use Rattle.window_follower.specs.declared.names.WindowType.TheVariants.{Normal, Dialog, Dock, Desktop, Splash, Utility, Toolbar, Menu, DropdownMenu, PopupMenu, Tooltip, Notification, Combo, DragAndDrop}
use Rattle.window_follower.specs.declared.names.Word.TheVariants.{DeleteWindow, Ping, Modal, ActiveWindow}
use Rattle.window_follower.specs.declared.names.Name.TheVariants.{Property, Root, OfType, Word as IsWord}

pub places : NamesHaveTheirPlaces
places (Property (Text OldTitle)) other = refl
places (Property (Text Title)) other = refl
places (Property (Text Machine)) other = refl
places (Property (Text ClientId)) other = refl
places (Property (Numbers State)) other = refl
places (Property (Numbers Protocols)) other = refl
places (Property (Numbers Leader)) other = refl
places (Property (Numbers TransientFor)) other = refl
places (Property (Numbers Types)) other = refl
places (Property (Numbers States)) other = refl
places (Property (Numbers UserTime)) other = refl
places (Property (Numbers UserTimeWindow)) other = refl
places (Property (Numbers Process)) other = refl
places (Root Check) other = refl
places (Root Windows) other = refl
places (OfType Normal) other = refl
places (OfType Dialog) other = refl
places (OfType Dock) other = refl
places (OfType Desktop) other = refl
places (OfType Splash) other = refl
places (OfType Utility) other = refl
places (OfType Toolbar) other = refl
places (OfType Menu) other = refl
places (OfType DropdownMenu) other = refl
places (OfType PopupMenu) other = refl
places (OfType Tooltip) other = refl
places (OfType Notification) other = refl
places (OfType Combo) other = refl
places (OfType DragAndDrop) other = refl
places (IsWord DeleteWindow) other = refl
places (IsWord Ping) other = refl
places (IsWord Modal) other = refl
places (IsWord ActiveWindow) other = refl
