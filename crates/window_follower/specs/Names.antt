-- The names of the properties and words that are known (ICCCM, section 4.1; EWMH), and the order in which their atoms are asked for.
use Rattle.std.specs.Prelude.{ℕ, List, [], ◌∷◌, codes}
use Rattle.window_follower.specs.declared.names.TextProperty.{TextProperty}
use Rattle.window_follower.specs.declared.names.TextProperty.TheVariants.{OldTitle, Title, Machine, ClientId}
use Rattle.window_follower.specs.declared.names.NumberProperty.{NumberProperty}
use Rattle.window_follower.specs.declared.names.NumberProperty.TheVariants.{State, Protocols, Leader, TransientFor, Types, States, UserTime, UserTimeWindow, Process}
use Rattle.window_follower.specs.declared.names.WindowProperty.{WindowProperty}
use Rattle.window_follower.specs.declared.names.WindowProperty.TheVariants.{Text, Numbers}
use Rattle.window_follower.specs.declared.names.RootProperty.{RootProperty}
use Rattle.window_follower.specs.declared.names.RootProperty.TheVariants.{Check, Windows}
use Rattle.window_follower.specs.declared.names.WindowType.{WindowType}
use Rattle.window_follower.specs.declared.names.WindowType.TheVariants.{Normal, Dialog, Dock, Desktop, Splash, Utility, Toolbar, Menu, DropdownMenu, PopupMenu, Tooltip, Notification, Combo, DragAndDrop}
use Rattle.window_follower.specs.declared.names.Word.{Word}
use Rattle.window_follower.specs.declared.names.Word.TheVariants.{DeleteWindow, Ping, Modal, ActiveWindow}
use Rattle.window_follower.specs.declared.names.Name.{Name}
use Rattle.window_follower.specs.declared.names.Name.TheVariants.{Property, Root, OfType, Word as IsWord}

abbrev pub text_name : TextProperty → List ℕ
text_name OldTitle = codes "WM_NAME"
text_name Title = codes "_NET_WM_NAME"
text_name Machine = codes "WM_CLIENT_MACHINE"
text_name ClientId = codes "SM_CLIENT_ID"

abbrev pub number_name : NumberProperty → List ℕ
number_name State = codes "WM_STATE"
number_name Protocols = codes "WM_PROTOCOLS"
number_name Leader = codes "WM_CLIENT_LEADER"
number_name TransientFor = codes "WM_TRANSIENT_FOR"
number_name Types = codes "_NET_WM_WINDOW_TYPE"
number_name States = codes "_NET_WM_STATE"
number_name UserTime = codes "_NET_WM_USER_TIME"
number_name UserTimeWindow = codes "_NET_WM_USER_TIME_WINDOW"
number_name Process = codes "_NET_WM_PID"

abbrev pub property_text : WindowProperty → List ℕ
property_text (Text property) = text_name property
property_text (Numbers property) = number_name property

abbrev pub root_text : RootProperty → List ℕ
root_text Check = codes "_NET_SUPPORTING_WM_CHECK"
root_text Windows = codes "_NET_CLIENT_LIST"

abbrev pub type_text : WindowType → List ℕ
type_text Normal = codes "_NET_WM_WINDOW_TYPE_NORMAL"
type_text Dialog = codes "_NET_WM_WINDOW_TYPE_DIALOG"
type_text Dock = codes "_NET_WM_WINDOW_TYPE_DOCK"
type_text Desktop = codes "_NET_WM_WINDOW_TYPE_DESKTOP"
type_text Splash = codes "_NET_WM_WINDOW_TYPE_SPLASH"
type_text Utility = codes "_NET_WM_WINDOW_TYPE_UTILITY"
type_text Toolbar = codes "_NET_WM_WINDOW_TYPE_TOOLBAR"
type_text Menu = codes "_NET_WM_WINDOW_TYPE_MENU"
type_text DropdownMenu = codes "_NET_WM_WINDOW_TYPE_DROPDOWN_MENU"
type_text PopupMenu = codes "_NET_WM_WINDOW_TYPE_POPUP_MENU"
type_text Tooltip = codes "_NET_WM_WINDOW_TYPE_TOOLTIP"
type_text Notification = codes "_NET_WM_WINDOW_TYPE_NOTIFICATION"
type_text Combo = codes "_NET_WM_WINDOW_TYPE_COMBO"
type_text DragAndDrop = codes "_NET_WM_WINDOW_TYPE_DND"

abbrev pub word_text : Word → List ℕ
word_text DeleteWindow = codes "WM_DELETE_WINDOW"
word_text Ping = codes "_NET_WM_PING"
word_text Modal = codes "_NET_WM_STATE_MODAL"
word_text ActiveWindow = codes "_NET_ACTIVE_WINDOW"

-- how a name is spelled
abbrev pub name_text : Name → List ℕ
name_text (Property property) = property_text property
name_text (Root property) = root_text property
name_text (OfType kind) = type_text kind
name_text (IsWord word) = word_text word

-- The atoms come in the order in which they are asked for: this is the place of each name's atom.
abbrev pub text_place : TextProperty → ℕ
text_place OldTitle = 4
text_place Title = 5
text_place Machine = 6
text_place ClientId = 7

abbrev pub number_place : NumberProperty → ℕ
number_place State = 0
number_place Protocols = 1
number_place Leader = 2
number_place TransientFor = 3
number_place Types = 8
number_place States = 9
number_place UserTime = 10
number_place UserTimeWindow = 11
number_place Process = 12

abbrev pub property_place : WindowProperty → ℕ
property_place (Text property) = text_place property
property_place (Numbers property) = number_place property

abbrev pub root_place : RootProperty → ℕ
root_place Check = 13
root_place Windows = 14

abbrev pub type_place : WindowType → ℕ
type_place Normal = 15
type_place Dialog = 16
type_place Dock = 17
type_place Desktop = 18
type_place Splash = 19
type_place Utility = 20
type_place Toolbar = 21
type_place Menu = 22
type_place DropdownMenu = 23
type_place PopupMenu = 24
type_place Tooltip = 25
type_place Notification = 26
type_place Combo = 27
type_place DragAndDrop = 28

abbrev pub word_place : Word → ℕ
word_place DeleteWindow = 29
word_place Ping = 30
word_place Modal = 31
word_place ActiveWindow = 32

abbrev pub place : Name → ℕ
place (Property property) = property_place property
place (Root property) = root_place property
place (OfType kind) = type_place kind
place (IsWord word) = word_place word

abbrev pub window_properties : List WindowProperty
window_properties = Numbers State ∷ Numbers Protocols ∷ Numbers Leader ∷ Numbers TransientFor ∷ Text OldTitle ∷ Text Title ∷ Text Machine ∷ Text ClientId ∷ Numbers Types ∷ Numbers States ∷ Numbers UserTime ∷ Numbers UserTimeWindow ∷ Numbers Process ∷ []

abbrev pub root_properties : List RootProperty
root_properties = Check ∷ Windows ∷ []

abbrev pub window_types : List WindowType
window_types = Normal ∷ Dialog ∷ Dock ∷ Desktop ∷ Splash ∷ Utility ∷ Toolbar ∷ Menu ∷ DropdownMenu ∷ PopupMenu ∷ Tooltip ∷ Notification ∷ Combo ∷ DragAndDrop ∷ []

-- the names in the order in which their atoms are asked for
abbrev pub every_name : List Name
every_name = Property (Numbers State) ∷ Property (Numbers Protocols) ∷ Property (Numbers Leader) ∷ Property (Numbers TransientFor) ∷ Property (Text OldTitle) ∷ Property (Text Title) ∷ Property (Text Machine) ∷ Property (Text ClientId) ∷ Property (Numbers Types) ∷ Property (Numbers States) ∷ Property (Numbers UserTime) ∷ Property (Numbers UserTimeWindow) ∷ Property (Numbers Process) ∷ Root Check ∷ Root Windows ∷ OfType Normal ∷ OfType Dialog ∷ OfType Dock ∷ OfType Desktop ∷ OfType Splash ∷ OfType Utility ∷ OfType Toolbar ∷ OfType Menu ∷ OfType DropdownMenu ∷ OfType PopupMenu ∷ OfType Tooltip ∷ OfType Notification ∷ OfType Combo ∷ OfType DragAndDrop ∷ IsWord DeleteWindow ∷ IsWord Ping ∷ IsWord Modal ∷ IsWord ActiveWindow ∷ []
